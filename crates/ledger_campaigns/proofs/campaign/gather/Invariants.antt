use Rattle.std.proofs.Common.{map}
use Rattle.ledger_campaigns.proofs.CampaignLemmas.{Gathers}
use Rattle.ledger_campaigns.proofs.campaign.gather.Given as goal

-- the lines so far have the rows of their places, and all keep their names
abbrev pub invariant-loop-i : goal.invariant-loop-i
invariant-loop-i g l = Gathers l.fn.lines (map (λ place. place.row) l.places) l.i l.lines
