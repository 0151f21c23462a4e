-- The definitions that the contracts of a crop cite.
pub mod Crop
pub mod Bound
pub mod Share
