-- What the proofs of the calls share, and what crosses with a refusal.
pub mod Answers
pub mod Tables
pub mod Refusals
