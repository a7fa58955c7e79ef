-- What the contracts of a run's events as records, in CSV or JSON, refer to.
pub mod Csv
pub mod Json
pub mod Records
