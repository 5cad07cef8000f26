-- Lemmas that several proofs cite.
pub mod TableNames
pub mod Policies
pub mod Programs
