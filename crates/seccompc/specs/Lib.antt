-- The definitions that the contracts cite.

-- What is promised, in reading order: the words of each command; what goes wrong, and which fault of an architecture's
-- name and of a policy is reported; what is written for records, and what an engine answers; what each engine answers and
-- writes: lines of runs, listings; which of these a command is; and the meaning of the exit statuses.
pub mod Words
pub mod Errors
pub mod Faults
pub mod Records
pub mod Answers
pub mod Lines
pub mod Probe
pub mod Listing
pub mod Policies
pub mod Commands
pub mod Statuses
-- Between layers: what the private steps of the engines promise each other.
pub mod EngineSteps
