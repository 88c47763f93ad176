pub mod EitherForm
pub mod Usable
