-- The laws that the proofs cite, and that what is read is a table.
pub mod Fields
pub mod Places
pub mod Load
pub mod Replies
pub mod Typed
