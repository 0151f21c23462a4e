-- The definitions that the contracts of the report cite.
pub mod Report
pub mod Walk
pub mod Page
pub mod Each
pub mod Pages
