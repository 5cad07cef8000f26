pub mod RulesCode
pub mod CallNumbers
