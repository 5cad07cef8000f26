pub mod Guarded
pub mod OneChain
pub mod AllChains
pub mod WholeProgram
