-- Laws of the definitions, which the proofs of several functions cite.
pub mod Common
pub mod Runs
pub mod Meeting
pub mod Parts
pub mod Trees
pub mod Theorem
pub mod Decided
pub mod Begun
