-- The definitions that the contracts of the sheet cite. A reader needs StepSheet and Limits; Quantities gives the ranges between which the code is
-- proved, Accepted says which days it is for, and Parts names two steps between the lines and the figure.
pub mod StepSheet
pub mod Limits
pub mod Quantities
pub mod Accepted
pub mod Parts
