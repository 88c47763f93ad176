-- The stand-in, the bound, and what is claimed of it.
pub mod StandIn
pub mod Agreement
pub mod Exactness
pub mod Helpers
