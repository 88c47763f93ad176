-- Chains over an edge relation.
pub mod Chains
pub mod Helpers
