-- The lemmas that belong to no one function.
pub mod Bytes
pub mod Roles
pub mod Overwriting
pub mod ReadBack
pub mod Examples
