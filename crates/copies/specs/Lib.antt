-- What a fetch takes, and where a copied capability lands.
pub mod Copies
pub mod Helpers
pub mod Exactness
