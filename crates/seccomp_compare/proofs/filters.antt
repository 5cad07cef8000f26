-- Lemmas for the functions of `filters`.
pub mod ComparedDecisions
