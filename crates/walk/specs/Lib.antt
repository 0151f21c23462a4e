-- The definitions that the contracts of the walk cite.
pub mod Passes
