pub mod Replies
pub mod Refusals
pub mod Helpers
pub mod Exactness
