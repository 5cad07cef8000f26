-- The definitions that the contracts cite.

-- What is promised, in reading order: which words are which command, what each command does, and why it fails; what is done outside,
-- and with which status a command ends.
pub mod Files
pub mod Causes
pub mod Learn
pub mod Commands
pub mod Failures
pub mod Outside
pub mod Ends
-- Between layers: the names that these cite of the crates below, passed on.
pub mod Words
