-- What the contracts of the association's APDUs and of the decision on an AARQ refer to.
pub mod Conformance
pub mod Diagnostics
pub mod Fit
pub mod Parts
pub mod Password
pub mod Reading
pub mod Spelling
pub mod Text
pub mod Verdict
pub mod Numbers
