-- The definitions that the contracts of the record decoder cite.
pub mod Bytes
pub mod Record
pub mod Kind
