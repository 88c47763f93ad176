-- That the rows are the sentences, and what weakening leaves.
pub mod Values
pub mod Sentences
pub mod Weakening
