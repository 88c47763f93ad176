-- Chains of an accepted test; the claims of 2.1, and of 2.6 about chains.
pub mod BoundChains
pub mod Answered
pub mod Claims
pub mod Most
pub mod Words
pub mod Ways
