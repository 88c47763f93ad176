-- The bound is exact and reads no byte of a member; what the code works it from.
pub mod Exact
pub mod Holding
pub mod TestLinks
pub mod Passing
pub mod Weak
