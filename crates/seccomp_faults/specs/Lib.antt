-- The definitions that the contracts cite: the forms and what each has inside, and what a fault is.
pub mod Table
pub mod Forms
pub mod Faults
pub mod Checks
