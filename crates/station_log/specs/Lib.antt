-- The definitions that the contracts of the log cite.
pub mod History
pub mod Log
pub mod Carried
pub mod Parts
