-- Lemmas for the functions of `lists`.
pub mod ReadLists
