-- The lemmas that belong to no one function.
pub mod Signed
pub mod Stages
pub mod Alike
pub mod Bodies
pub mod FoundThere
pub mod Part
pub mod Examples
pub mod Held
