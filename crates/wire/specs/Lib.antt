-- A request from its bytes.
pub mod Wires
pub mod Helpers
