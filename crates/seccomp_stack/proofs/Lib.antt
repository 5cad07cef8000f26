-- The lemmas of the modules.
pub mod Words
pub mod Runs
pub mod OlderRuns
pub mod Lengths
pub mod Decisions
pub mod Stacked
pub mod Asked
