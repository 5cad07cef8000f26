-- Lemmas for the functions of `taken`.
pub mod OnArguments
