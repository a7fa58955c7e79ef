pub mod Judged
pub mod Names
pub mod Results
pub mod SeveralRead
