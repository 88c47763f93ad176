-- The laws that the proofs cite, and the claims of 2.2.
pub mod Finds
pub mod Rights
pub mod Tables
pub mod Places
pub mod Loops
pub mod Heads
pub mod Grammar
pub mod Legal
pub mod Joined
pub mod Claims
pub mod Refusals
