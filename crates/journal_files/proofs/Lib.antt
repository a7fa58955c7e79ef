pub mod FaultLemmas
pub mod RenewalLemmas
pub mod Restarts
pub mod RunLemmas
pub mod WholeTexts
