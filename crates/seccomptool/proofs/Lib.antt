-- Laws of the definitions, which the proofs of several modules cite. The lemmas of one module lie in that module's folder,
-- and the file beside the folder lists them.
pub mod Common
pub mod Causes
pub mod History
pub mod Layers
pub mod Traces
pub mod Wanted
