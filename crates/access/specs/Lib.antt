-- Potential access of a table.
pub mod Answers
pub mod Helpers
