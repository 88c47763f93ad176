-- The laws that the proofs cite.
pub mod Inputs
pub mod Answers
