pub mod Witness
pub mod Unlisted
pub mod EmptyCopies
pub mod Reclaiming
