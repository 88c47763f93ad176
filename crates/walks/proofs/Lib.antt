-- The least chain over any edges, and the loops that find it.
pub mod Shortest
pub mod Layered
pub mod Lengths
pub mod Loops
pub mod Rounds
