pub mod Comparisons
pub mod ConditionCode
