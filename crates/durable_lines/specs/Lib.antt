-- What the contracts of lines in a file refer to, with the model of a crash.
pub mod Calls
pub mod CrashModel
pub mod FileModel
pub mod FileState
pub mod Holding
pub mod Lines
pub mod MemoryFile
pub mod MemoryPlace
pub mod Moments
pub mod RawFile
pub mod RawFolder
pub mod RawModel
pub mod StoredFile
pub mod StoredPlace
