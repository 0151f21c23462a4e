-- The unrounded equation.
pub mod Equation
