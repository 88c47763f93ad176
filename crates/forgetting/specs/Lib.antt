-- What a reclaim takes out of the whole table.
pub mod Forgetting
