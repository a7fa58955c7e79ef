use Rattle.std.proofs.Common.{◌≡◌, ◌<◌, ℕ, true}
use Rattle.std.specs.Prelude.{slice_get}
use Rattle.campaign_ledger.specs.Entries.{entry_at}
use Rattle.campaign_board.specs.Updates.{is_settled}
use Rattle.campaign_board.proofs.places.are_settled.Given as goal

-- the places so far have no outcome to be waited for
abbrev pub invariant-places : goal.invariant-places
invariant-places l = (place : ℕ) → place < l.at
    → is_settled (entry_at l.found place) (slice_get l.places place) ≡ true
