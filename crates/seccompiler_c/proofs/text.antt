-- Lemmas for the functions of `text`.
pub mod Places
