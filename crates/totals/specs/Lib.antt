-- The definitions that the contracts of the totals cite.
pub mod Months
pub mod Totals
pub mod Tally
