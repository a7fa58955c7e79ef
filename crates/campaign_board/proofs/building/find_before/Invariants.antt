use Rattle.campaign_board.proofs.BuildingLemmas.{HasLast, last_in}
use Rattle.campaign_board.proofs.building.find_before.Given as goal

-- the last earlier jobs so far, and for each address the last one
abbrev pub invariant-loop-at : goal.invariant-loop-at
invariant-loop-at l = HasLast l.jobs l.found l.at l.before.items (last_in l.last)
