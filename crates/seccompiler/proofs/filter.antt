pub mod Chains
pub mod FilterEquality
pub mod Reordering
