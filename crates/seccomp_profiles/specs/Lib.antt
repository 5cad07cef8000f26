-- The definitions that the contracts cite.

-- What is promised: the parts of a profile, which JSON values and texts are which, when an entry applies, what a profile decides, which
-- entries it has in one form, and which decisions and programs are a profile's.
pub mod Types
pub mod Shape
pub mod Version
pub mod Actions
pub mod Listed
pub mod ProfileShape
pub mod ProfileText
pub mod Abis
pub mod Decision
pub mod Taken
pub mod ProfileDecisions
pub mod Conditions
pub mod Lowered
pub mod CompiledProfile
pub mod LeftOut
-- Between layers. No promise rests on how these are worded.
pub mod Defaults
pub mod Concerns
