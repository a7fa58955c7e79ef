pub mod FrontFaults
pub mod Fronts
pub mod Steps
pub mod Whole
pub mod WholeFronts
