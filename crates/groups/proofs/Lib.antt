-- By groups as by the rules, and the laws that the proofs cite.
pub mod Exact
pub mod Laid
pub mod Links
pub mod Held
pub mod Answered
