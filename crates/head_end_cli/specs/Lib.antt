-- What the contracts of the program `head_end` refer to.
pub mod Asking
pub mod Ledgered
pub mod Printed
