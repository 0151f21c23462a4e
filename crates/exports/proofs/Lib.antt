-- What the proofs of several functions use.
pub mod Returned
pub mod Told
pub mod Examples
