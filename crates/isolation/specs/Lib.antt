pub mod Clean
pub mod Demand
