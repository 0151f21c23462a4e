-- The ratios that the fractions are made of, and the solver for equations in a commutative ring. A reader of statements needs Ratios, and of Solver
-- `power`; the rest serves them.
pub mod Integers
pub mod Rings
pub mod Polynomials
pub mod Solver
pub mod IntegerSolver
pub mod Ratios
