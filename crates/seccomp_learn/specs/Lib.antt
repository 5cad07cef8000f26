-- The definitions that the contracts cite: which records are as calls were observed, and what more than a limit of values is.
pub mod Observed
pub mod Learned
pub mod Written
pub mod Usual
-- Between the functions.
pub mod Parts
