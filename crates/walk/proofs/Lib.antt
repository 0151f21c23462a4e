-- The lemmas that belong to no one function.
pub mod Along
pub mod Passed
pub mod Replies
pub mod HandedBack
