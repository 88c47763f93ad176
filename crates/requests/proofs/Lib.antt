-- Laws of requests as the code holds them.
pub mod Held
