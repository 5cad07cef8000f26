-- Lemmas for the functions of `profile`.
pub mod Arguments
pub mod Objects
