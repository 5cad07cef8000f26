-- Lemmas for the functions of `json::filter_map`.
pub mod FilterMaps
