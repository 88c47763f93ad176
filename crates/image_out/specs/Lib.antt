-- The stored image, written; what is claimed of reading and writing.
pub mod Helpers
pub mod Written
pub mod Exactness
