-- Lemmas for the functions of `record`.
pub mod Calls
