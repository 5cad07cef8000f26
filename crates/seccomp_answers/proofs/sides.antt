-- Lemmas for the functions of `sides`.
pub mod Filters
pub mod Profiles
