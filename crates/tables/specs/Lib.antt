-- The definitions that the contracts of the tables cite. A reader needs Series and Tables, and of Values `first`, by which
-- a month is found too; the rest of Values serves the code and the step sheet.
pub mod Series
pub mod Tables
pub mod Values
