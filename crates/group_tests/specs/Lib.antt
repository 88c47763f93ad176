-- The bound by groups, and that it is the bound.
pub mod Bounds
pub mod Exactness
pub mod Helpers
