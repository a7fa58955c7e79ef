-- What the contracts of a ledger as records, in CSV or JSON, refer to.
pub mod Csv
pub mod Fields
pub mod Formats
pub mod Json
pub mod Texts
