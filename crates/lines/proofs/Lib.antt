-- The lemmas that belong to no one function.
pub mod Written
pub mod Pens
pub mod Digits
pub mod Lengths
pub mod Examples
