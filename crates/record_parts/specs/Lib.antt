-- What the contracts of the parts of records refer to: civil times, columns of CSV, JSON values.
pub mod Civil
pub mod Columns
pub mod Values
