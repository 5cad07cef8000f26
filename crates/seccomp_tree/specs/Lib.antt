-- The definitions that the contracts cite.

-- Between layers: what private functions promise each other. No promise rests on how these are worded.
pub mod Code
pub mod Parts
-- Decisions, what they decide, and their program.
pub mod Decisions
pub mod Decided
pub mod TreeProgram
-- Filters as decisions, and their programs in either layout.
pub mod FilterDecisions
pub mod Layouts
