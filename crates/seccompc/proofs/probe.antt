-- Lemmas for the functions of `probe`.
pub mod Faults
