pub mod Tests
pub mod Below
pub mod Bits
pub mod UpTo
pub mod Words
pub mod Lowest
