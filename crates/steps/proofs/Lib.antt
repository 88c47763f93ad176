-- The mathematics that the proofs of this crate share, each module over those above it; what is known of a request that was answered
-- 0; which requests empty a slot; what is copied where; what a reclaim leaves; and
-- who writes a maker.
pub mod Refused
pub mod Ways
pub mod Uses
pub mod Kept
pub mod Granted
pub mod Emptying
pub mod Copied
pub mod Makers
pub mod Reclaims
