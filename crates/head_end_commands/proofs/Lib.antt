mod DoubleLemmas
mod Inputs
mod Plans
mod Stored
