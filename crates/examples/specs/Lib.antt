pub mod TableK
pub mod Statement
pub mod Rounds
