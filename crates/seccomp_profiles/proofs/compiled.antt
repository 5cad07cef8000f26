-- Lemmas for the functions of `compiled`.
pub mod Programs
