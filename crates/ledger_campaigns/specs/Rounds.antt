-- The rounds of a campaign on a ledger: the jobs of one address run one after the other.
--     HasRound          the job of a place has this round
--     AreUnusedWhenDue  the attempts of the jobs of a round are unused
--     IsPlaceRound      the effect of a round on a place
--     IsPlaceRunUpTo    the state of a place after some rounds
use Rattle.std.specs.Prelude.{◌≡◌, ◌<◌, ◌≤◌, ℕ, List, length, slice_index_or, Option}
use Rattle.turn_lock.specs.Shown.{ShownPort}
use Rattle.client_core.specs.declared.job.Job.{Job}
use Rattle.campaign_ledger.specs.declared.entry.LedgerEntry.{LedgerEntry}
use Rattle.head_end.specs.declared.row.Row.{Row}
use Rattle.head_end.specs.Attempts.{State, unused}
use Rattle.head_end.specs.Connections.{Forecast}
use Rattle.ledger_campaigns.specs.declared.request.LedgerRequest.{LedgerRequest}
use Rattle.ledger_campaigns.specs.declared.request.LedgerAnswer.{LedgerAnswer}
use Rattle.ledger_campaigns.specs.Campaigns.{IsPlaceRun}

-- whether the job of a place has this round
abbrev pub HasRound : List ℕ → ℕ → ℕ → Type 0
HasRound rounds round place = slice_index_or rounds place 0 ≡ round

-- whether the attempts of the jobs of a round are unused
abbrev pub AreUnusedWhenDue : {X : Type 0} → List ℕ → ℕ → (X → State) → List X → Type 0
AreUnusedWhenDue {X} rounds round stage_of places = (place : ℕ) (x : X) → place < length places
    → HasRound rounds round place → stage_of (slice_index_or places place x) ≡ unused

module _ {X B O : Type 0} (tells_of : X → List ℕ → Option Forecast)
    (port_of : X → ShownPort LedgerRequest (LedgerAnswer B) O) (row_of : X → Row)
    (stage_of : X → State) where
  -- whether a round ran the job of a place if the job has this round, and left the place unchanged
  -- otherwise
  pub record IsPlaceRound (jobs : List Job) (found : List LedgerEntry)
      (passwords : List (List ℕ)) (rounds : List ℕ) (round place : ℕ) (old new : X)
      : Type 0 where
    pub ran : HasRound rounds round place → IsPlaceRun jobs found passwords place (tells_of old)
        (port_of new) (row_of new) (stage_of new)
    pub others : ¬ (HasRound rounds round place) → new ≡ old

  -- whether the job of a place was run if its round is before this one, and the place is unchanged
  -- otherwise
  pub record IsPlaceRunUpTo (jobs : List Job) (found : List LedgerEntry)
      (passwords : List (List ℕ)) (rounds : List ℕ) (round place : ℕ) (start now : X)
      : Type 0 where
    pub ran : slice_index_or rounds place 0 < round → IsPlaceRun jobs found passwords place
        (tells_of start) (port_of now) (row_of now) (stage_of now)
    pub waits : round ≤ slice_index_or rounds place 0 → now ≡ start
