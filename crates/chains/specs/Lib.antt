-- Document 02, 2.1: which chain is shown, and what is claimed of it.
pub mod Answers
pub mod Exactness
pub mod Helpers
