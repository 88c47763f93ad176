-- What is read where a number is forgotten, and the loops' laws.
pub mod Mapped
pub mod Left
