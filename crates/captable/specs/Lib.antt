-- What crosses to C and Rust.
pub mod Crossing
