-- The entries of a test as bytes.
pub mod Entries
