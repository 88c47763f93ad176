-- Potential access as a relation: the rules, the closure that computes it, and that they are one.
pub mod Relation
pub mod Closure
pub mod Exactness
pub mod Helpers
