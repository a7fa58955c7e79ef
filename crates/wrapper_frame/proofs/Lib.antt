pub mod FrontLemmas
pub mod CutLemmas
pub mod LawLemmas
