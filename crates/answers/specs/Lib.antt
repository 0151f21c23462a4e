-- The definitions that the contracts of the answers cite.
pub mod Kinds
pub mod Answers
pub mod Overwriting
pub mod ReadBack
