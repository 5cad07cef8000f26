-- Lemmas for the functions of `json::members`.
pub mod FoundMembers
pub mod ObjectNames
