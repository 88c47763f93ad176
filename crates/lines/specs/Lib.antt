-- What is printed of a decision.
pub mod Lines
pub mod Helpers
