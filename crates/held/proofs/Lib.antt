-- The laws that the proofs cite.
pub mod Slots
pub mod Passed
