-- What a request does.
pub mod Effects
