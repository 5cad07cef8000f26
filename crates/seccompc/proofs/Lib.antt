-- Laws of the definitions, which the proofs of several modules cite, and what `carry_out` needs. The lemmas of one module
-- lie in that module's folder, and the file beside the folder lists them.
pub mod Readings
pub mod Faults
pub mod Records
pub mod Answers
pub mod Policies
pub mod Statuses
