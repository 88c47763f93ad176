-- A request as bytes, written.
pub mod Written
