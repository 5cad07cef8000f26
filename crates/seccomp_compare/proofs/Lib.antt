-- The lemmas of the modules.
pub mod OneEnd
pub mod Ends
pub mod OfSeven
pub mod Words
pub mod Masks
pub mod KnownBits
pub mod StepsOnSets
pub mod RecordSets
pub mod TasksLeft
pub mod RulesUnder
pub mod SetsLeft
