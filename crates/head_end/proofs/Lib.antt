mod Texts
mod Talking
mod Steps
mod Turning
pub mod JobOutcomes
mod Places
mod CampaignLemmas
mod ReportLemmas
mod RoundLemmas
mod ReadingLemmas
mod PasswordLemmas
mod LawLemmas
