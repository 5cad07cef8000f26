-- Lemmas for the functions of `json::compiler`.
pub mod TextPolicies
