-- Potential access by groups, and that it is potential access.
pub mod Groups
pub mod Answers
pub mod Exactness
pub mod Helpers
