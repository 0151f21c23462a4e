-- The lemmas that belong to no one function.
pub mod Calendar
pub mod Examples
pub mod Shares
pub mod InTurn
