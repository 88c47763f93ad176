pub mod Input
pub mod Decisions
pub mod Printed
