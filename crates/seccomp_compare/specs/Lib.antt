-- The definitions that the contracts cite.

-- What is promised: the machine for programs of any compiler; programs and filters compared.
pub mod Machine
pub mod Compare
pub mod CompareFilters
pub mod Cover
pub mod Rules
-- Between layers: what private functions promise each other.
pub mod WordSets
pub mod RecordSets
pub mod CompareTasks
pub mod Spans
pub mod Known
