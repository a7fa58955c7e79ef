-- What the tests of whole runs refer to: runs whose sources are lists.
pub mod ListedRuns
