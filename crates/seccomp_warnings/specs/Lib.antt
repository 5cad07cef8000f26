-- The definitions that the contracts cite: which warnings a part has, and which a profile.
pub mod AbiEvasions
pub mod ActionWarnings
pub mod AnyArgument
pub mod Beside
pub mod CallWarnings
pub mod Doubts
pub mod Evasions
pub mod Parts
pub mod ProfileParts
pub mod ProfileWarnings
pub mod Warnings
