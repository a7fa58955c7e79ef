pub mod MaskLemmas
pub mod BitLemmas
pub mod RunLemmas
