-- The lemmas that belong to no one function.
pub mod Laws
pub mod Behind
pub mod Blocks
pub mod Going
pub mod Walked
pub mod InTurn
pub mod Prints
pub mod FromLog
pub mod DateOrder
pub mod Sizes
pub mod SmallAnswers
pub mod LongEnough
pub mod TotalsOwed
pub mod Totals
pub mod WorkedReport
pub mod WorkedMonths
