pub mod Lists
pub mod Cells
pub mod Soundness
pub mod Helpers
