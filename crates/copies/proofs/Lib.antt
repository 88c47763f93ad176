-- Where one copy lands, the laws of pairs that the proofs cite, and what a fetch takes.
pub mod Landing
pub mod Pairs
pub mod Fetches
