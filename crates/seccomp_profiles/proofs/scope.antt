-- Lemmas for the functions of `scope`.
pub mod Tests
