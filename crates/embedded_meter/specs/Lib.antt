-- What the contracts of one meter with up to eight sessions refer to.
pub mod Calls
pub mod Dialogues
pub mod Memory
pub mod MeterStates
pub mod Progress
pub mod Working
