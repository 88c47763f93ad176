-- The mathematics that the proofs of this crate share, each module over those above it.
pub mod Targets
pub mod Lists
pub mod Rows
pub mod Blind
