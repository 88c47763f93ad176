-- Document 02, 2.2: the tables of the older rigs, what bytes they are, and what they become.
pub mod Entities
pub mod Layout
pub mod Walk
pub mod Imports
pub mod Stores
pub mod Exactness
pub mod Helpers
