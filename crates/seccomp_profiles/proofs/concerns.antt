-- Lemmas for the functions of `concerns`.
pub mod Conditions
pub mod Numbers
