-- Lemmas: what JSON values have under keys and at places; lists, rows and depths; and what is answered of a text.
pub mod Values
pub mod Parts
pub mod Judgements
