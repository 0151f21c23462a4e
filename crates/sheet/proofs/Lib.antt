-- Modules of this crate's proofs that belong to no one function.
pub mod Values
pub mod Choices
pub mod Laws
pub mod Lines
pub mod Examples
