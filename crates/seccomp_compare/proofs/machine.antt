-- Lemmas for the functions of `machine`.
pub mod CheckedLemmas
