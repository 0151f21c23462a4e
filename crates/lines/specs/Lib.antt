-- The definitions that the contracts of the lines cite.
pub mod Text
pub mod Written
pub mod Pen
