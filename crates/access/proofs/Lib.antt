-- The laws that the proofs cite: the words to start from, and those of a table.
pub mod Marks
pub mod StartWords
pub mod TableWords
