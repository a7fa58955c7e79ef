-- The steps of a campaign, and what they do to one of its places.
--     Happening      a step
--     Life           what has happened at a place
--     life_of        the life of a place by the steps of the campaign, the newest first
use Rattle.std.specs.Prelude.{◌==◌, ℕ, suc, Bool, true, false, if◌then◌else◌, List, [], ◌∷◌, ◌++◌}
use Rattle.client_core.specs.declared.job.Outcome.{Outcome}
use Rattle.campaign_ledger.specs.declared.book.PlaceOutcome.{PlaceOutcome}
use Rattle.campaign_ledger.specs.Groups.{has}

-- A step: the job of a place began, with a new connection; bytes came on it; bytes came on it and
-- were lost, out of memory; a message was given for it; it is over, with this outcome; marks and
-- outcomes were committed together.
pub data Happening : Type 0 where
  began : ℕ → Happening
  received : ℕ → List ℕ → Happening
  lost : ℕ → List ℕ → Happening
  handed : ℕ → List ℕ → Happening
  ended : ℕ → Outcome → Happening
  committed : List ℕ → List PlaceOutcome → Happening

-- What has happened at a place: whether its job began, is over, and has its mark; the bytes that
-- came, and the number of messages given.
pub record Life : Type 0 where
  pub has_begun : Bool
  pub is_over : Bool
  pub is_marked : Bool
  pub fed : List ℕ
  pub given : ℕ

-- a place at which nothing has happened
abbrev pub new_life : Life
new_life = record { has_begun = false; is_over = false; is_marked = false; fed = []; given = 0 }

-- the life of a place after a step
abbrev pub life_after : ℕ → Happening → Life → Life
life_after place (began at) life = if at == place then record life { has_begun = true } else life
life_after place (received at bytes) life =
    if at == place then record life { fed = life.fed ++ bytes } else life
life_after place (lost at bytes) life = life
life_after place (handed at text) life =
    if at == place then record life { given = suc life.given } else life
life_after place (ended at outcome) life =
    if at == place then record life { is_over = true } else life
life_after place (committed marks outcomes) life =
    if has place marks then record life { is_marked = true } else life

-- the life of a place, by steps of which the newest is first
abbrev pub life_of : ℕ → List Happening → Life
life_of place [] = new_life
life_of place (step ∷ earlier) = life_after place step (life_of place earlier)
