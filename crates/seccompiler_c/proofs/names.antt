pub mod FilterNames
