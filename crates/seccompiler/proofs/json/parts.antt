-- Lemmas for the functions of `json::parts`.
pub mod ReadLists
pub mod OneFilter
