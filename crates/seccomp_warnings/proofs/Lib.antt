-- Lemmas: of conditions, for `condition`; of the rows of tables; of some elements of lists, for `beside`; and of what lists gain and what
-- warnings are about, for `walk`. Of profiles: of what is doubtful, of the actions that have a part, and of warnings.
pub mod ConstantConditions
pub mod Doubted
pub mod EvadedOn
pub mod Listed
pub mod PartActions
pub mod Said
pub mod Those
