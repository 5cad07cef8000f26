-- Lemmas for `hexadecimal`.
pub mod Digits
