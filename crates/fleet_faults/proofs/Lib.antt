pub mod Cuts
pub mod Drawing
pub mod Due
