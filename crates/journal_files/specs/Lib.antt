-- What the contracts of a journal as a file refer to.
pub mod Faults
pub mod Journals
pub mod Renewals
pub mod RenewedFile
pub mod Running
