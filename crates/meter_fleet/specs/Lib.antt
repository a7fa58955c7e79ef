-- What the contracts of a fleet's loop refer to: the network's reports and the loop's rounds.
pub mod Networks
pub mod Rounds
pub mod Runs
