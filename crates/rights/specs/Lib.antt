-- What rights are worth, and that the rows are document 01's sentences.
pub mod Rows
pub mod Exactness
