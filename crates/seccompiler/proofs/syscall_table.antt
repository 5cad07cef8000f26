pub mod Halving
pub mod HalvingOnly
