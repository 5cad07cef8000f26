-- What holds of lists, which the proofs of several modules cite.
pub mod Mapped
