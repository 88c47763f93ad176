-- The laws that the proofs cite.
pub mod Reaching
pub mod Settling
pub mod Walking
pub mod Grouping
pub mod Words
