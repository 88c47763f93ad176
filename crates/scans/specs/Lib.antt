-- What this crate says: helpers alone.
pub mod Helpers
