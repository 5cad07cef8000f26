-- Lemmas for the functions of `json::repeats`.
pub mod TextCuts
pub mod NestedNames
