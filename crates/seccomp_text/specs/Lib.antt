-- The definitions that the contracts cite: how numbers, names, texts from outside and programs are written.
pub mod Hexadecimal
pub mod Names
pub mod Readable
pub mod Listing
pub mod Numbers
