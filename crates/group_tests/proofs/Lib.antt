-- The bound by groups as by the rules, and the laws that the proofs cite.
pub mod Exact
pub mod Members
pub mod Found
