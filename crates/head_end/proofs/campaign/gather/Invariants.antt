use Rattle.std.proofs.Common.{map}
use Rattle.head_end.proofs.CampaignLemmas.{Gathers}
use Rattle.head_end.proofs.campaign.gather.Given as goal

-- the lines so far have the rows of their slots, and all keep their names
abbrev pub invariant-loop-i : goal.invariant-loop-i
invariant-loop-i g l = Gathers l.turns l.workers l.fn.lines (map
    (λ place. place.row) l.places) l.i l.lines
