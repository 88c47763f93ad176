pub mod Links
pub mod Rounds
pub mod Helpers
