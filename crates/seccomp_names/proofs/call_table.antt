-- Lemmas on tables.
pub mod Looked
