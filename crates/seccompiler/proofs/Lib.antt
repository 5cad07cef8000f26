-- Laws of the definitions, which the proofs of several modules cite: of records, lists, the machine and pieces of code; of
-- chains, tables and what stands under names. The lemmas of one module lie in that module's folder, and the file
-- beside the folder lists them.
pub mod Words
pub mod Parts
pub mod Zipped
pub mod Searches
pub mod Runs
pub mod Steps
pub mod Determinism
pub mod Closed
pub mod Blocks
pub mod CappedLengths
pub mod FoundChains
pub mod ChainNumbers
pub mod TableFacts
pub mod TableNames
pub mod ByName
pub mod TextFilters
pub mod ReadBack
