-- The laws that the proofs cite, and the theorems.
pub mod Sizes
pub mod Fields
pub mod Parsed
pub mod Few
