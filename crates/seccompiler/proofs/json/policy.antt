-- Lemmas for the functions of `json::policy`.
pub mod EntryRules
pub mod EntryChains
pub mod ToldNumbers
pub mod GatheredEntries
pub mod EntryFaults
pub mod NumberedChains
pub mod Policies
pub mod WidenedNumbers
pub mod MetEntries
