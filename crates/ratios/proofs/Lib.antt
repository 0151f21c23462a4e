-- The lemmas that belong to no one function.
pub mod Congruence
