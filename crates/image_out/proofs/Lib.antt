-- The laws that the proofs cite, and the round trip.
pub mod Store
pub mod Left
pub mod RoundTrip
