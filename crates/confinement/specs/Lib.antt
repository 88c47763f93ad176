pub mod Refusals
pub mod Links
pub mod Rounds
pub mod Tests
pub mod Helpers
pub mod Exactness
