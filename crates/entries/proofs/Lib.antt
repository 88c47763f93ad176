-- The laws that the proofs cite.
pub mod Filling
pub mod Lists
