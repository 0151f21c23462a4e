-- The definitions that contracts cite. A reader of statements needs Whole, Ranges, Fractions and Rounding, and of the crate `ratios` Ratios and, of
-- Solver, `power`; the rest serves them.
pub mod Whole
pub mod Ranges
pub mod Fractions
pub mod Rounding
pub mod Root
