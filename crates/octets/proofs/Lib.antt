-- The mathematics of bytes, each module over those above it.
pub mod Lists
pub mod BigEndian
pub mod Parts
