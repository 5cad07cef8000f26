-- The definitions that the contracts cite.

-- What is promised. The headline for filters, in reading order: call records, the machine, checked programs; architectures;
-- policies and what they decide; how long a program is; when one is compiled for a filter, and why a filter is rejected.
pub mod Machine
pub mod Architecture
pub mod Policy
pub mod Layout
pub mod Compiled
-- The headline for policies as JSON text: repeated names, the shapes of values, the policy of a filter or its first fault,
-- and what is given for a whole text.
pub mod TextPieces
pub mod JsonRepeats
pub mod JsonTypes
pub mod JsonShape
pub mod JsonFilters
pub mod SyscallTable
pub mod JsonPolicyOf
pub mod JsonAnswers
pub mod JsonPrograms
pub mod Reads
-- What other calls promise: the code of conditions and rules; the first place of a program that isn't taken; each step
-- from JSON to filters; which records meet an entry; entries without conditions; errors and their texts; installing;
-- the order of rules and the low half of an argument; equality.
pub mod Code
pub mod ConditionCode
pub mod Pieces
pub mod FirstUnfit
pub mod JsonSteps
pub mod JsonEntries
pub mod JsonWidened
pub mod Texts
pub mod Errors
pub mod Install
pub mod Reorder
pub mod Equality
-- Between layers: what private functions promise each other. No promise rests on how these are worded.
pub mod ChainCode
pub mod JsonGathered
pub mod ColonCount
