-- Lemmas for the functions of `defaults`.
pub mod Greatest
