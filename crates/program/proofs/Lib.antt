pub mod OptionLemmas
pub mod PasswordLemmas
