pub mod Tests
pub mod Requests
pub mod Access
pub mod Images
pub mod Twelve
pub mod Rounds
