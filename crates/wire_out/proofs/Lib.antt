-- The laws that the proofs cite, and the round trip.
pub mod Pairs
pub mod Zeros
pub mod Writes
pub mod Cases
pub mod ReadBack
pub mod WriteBack
pub mod RoundTrip
