-- Lemmas: of what some of a list's elements have.
pub mod Quantified
pub mod TableNumbers
pub mod Entries
pub mod Seen
pub mod Differences
pub mod OfNames
pub mod Beside
