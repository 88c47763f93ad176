-- The laws that the proofs cite; which slots an effect empties, whose maker it leaves, and what a reclaim leaves at each place.
pub mod Several
pub mod Emptied
pub mod Makers
pub mod Reclaims
