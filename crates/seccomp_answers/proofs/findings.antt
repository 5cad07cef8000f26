-- Lemmas for the functions of `findings`.
pub mod Names
pub mod CutParts
pub mod Covered
pub mod Ending
pub mod Decided
pub mod Settled
pub mod Kept
pub mod Returned
