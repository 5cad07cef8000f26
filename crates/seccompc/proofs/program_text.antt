-- Lemmas for the functions of `program_text`.
pub mod Listings
