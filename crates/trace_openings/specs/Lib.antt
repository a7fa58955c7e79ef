-- What the contracts of a trace's opening refer to: its lines, as read and as written.
pub mod OpeningFields
pub mod OpeningForms
pub mod OpeningReading
pub mod OpeningRows
pub mod OpeningTraced
