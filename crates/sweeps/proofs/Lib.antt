-- The laws that the proofs cite.
pub mod Numbers
pub mod Frontier
pub mod Notes
