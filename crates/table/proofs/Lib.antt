pub mod Lists
pub mod Cells
pub mod SoundFacts
pub mod Scan
pub mod Glances
pub mod Places
pub mod Value
pub mod Unborn
