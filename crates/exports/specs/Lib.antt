-- What the contracts cite.
pub mod HandedIn
pub mod Told
pub mod Version
