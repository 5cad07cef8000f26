-- The definitions that the contracts cite.
pub mod CallTables
pub mod Capabilities
pub mod Errnos
