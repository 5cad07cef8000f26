-- The definitions that the contracts cite.

-- What is promised, in reading order: what is given, and what goes wrong with it; the programs of it; what is
-- decided, and why; and on which calls two sides differ.
pub mod Numbers
pub mod ProgramFaults
pub mod Errors
pub mod Chosen
pub mod Kinds
pub mod Compiled
pub mod Programs
pub mod Check
pub mod CheckProfile
pub mod Calls
pub mod Explain
pub mod Findings
pub mod Rulings
pub mod Sides
pub mod Layers
pub mod Diff
pub mod Causes
-- Between layers: what private steps promise each other.
pub mod ProgramParts
