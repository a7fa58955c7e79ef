use Rattle.campaign_board.proofs.LegalLemmas.{legal_safe}
use Rattle.campaign_board.proofs.laws.campaigns_are_safe.Goals as goal

pub returns : goal.returns
returns c = legal_safe
