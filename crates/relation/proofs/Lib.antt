-- The closure is the least relation, and so are the words that the rules leave as they are.
pub mod Reach
pub mod Exact
pub mod Tables
pub mod Feeds
pub mod Saturation
