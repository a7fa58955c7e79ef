-- What the contracts of the object table and of the clients' rights refer to.
pub mod Forms
pub mod Judging
pub mod ObjectList
pub mod Objects
pub mod ResultCode
pub mod Scripts
pub mod Table
pub mod UnknownNumber
pub mod WriteFault
pub mod Numbers
