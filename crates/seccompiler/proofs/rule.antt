pub mod GroupCuts
pub mod RuleCode
pub mod RelayCount
pub mod RuleLoops
