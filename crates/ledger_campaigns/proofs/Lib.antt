pub mod CampaignLemmas
pub mod DeskLemmas
pub mod OutcomeLemmas
pub mod PlaceLemmas
pub mod QuestionLemmas
pub mod RoundLemmas
pub mod RunLemmas
pub mod RunningLemmas
