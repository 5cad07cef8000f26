-- Lemmas for the functions of `members`.
pub mod ObjectNames
