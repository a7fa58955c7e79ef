use Rattle.campaign_board.specs.Building.{AreNew}
use Rattle.campaign_board.proofs.building.new_places.Given as goal

-- the places so far wait
abbrev pub invariant-places : goal.invariant-places
invariant-places l = AreNew l._made l.places.items
