-- The definitions that the contracts of a day cite.
pub mod Calendar
pub mod Rules
pub mod Judgement
pub mod Bound
pub mod Parts
