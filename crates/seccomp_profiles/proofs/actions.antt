-- Lemmas for the functions of `actions`.
pub mod Numbers
