pub mod ByteLaws
pub mod ChoiceLaws
pub mod Items
pub mod Lawful
pub mod OutcomeLemmas
