-- The use of an attempt by a job, and the permits that a port has seen.
use Rattle.std.proofs.Common.{◌≡◌, ◌⊎◌, ℕ, List, [], Option, Ok, Err, refl, inl}
use Rattle.std.proofs.Common.{inr, false}
use Rattle.std.specs.Prelude.{Result, IfOk}
use Rattle.turn_lock.specs.History.{StartsWith}
use Rattle.client_core.specs.declared.client.Client.{Client}
use Rattle.client_core.specs.declared.job.Job.{Job}
use Rattle.client_core.specs.declared.job.Outcome.{Outcome}
use Rattle.client_core.specs.declared.job.Outcome.TheVariants.{Unknown}
use Rattle.client_core.specs.declared.job.Verb.{Verb}
use Rattle.client_core.specs.declared.job.Verb.TheVariants.{Disconnect, Reconnect, ReadState}
use Rattle.client_core.specs.Standing.{Stands}
use Rattle.campaign_ledger.specs.Runs.{IsIn}
use Rattle.head_end.specs.declared.row.Row.TheVariants.{Came}
use Rattle.head_end.specs.Attempts.{closed, row_in}
use Rattle.head_end.specs.Connections.{Forecast, ConnectTells}
use Rattle.head_end.specs.Logs.{Happening, IsNewLog}
use Rattle.head_end.specs.Rows.{IsOutcome, IsRow}
use Rattle.head_end.proofs.JobOutcomes.{connected, tried_closed}
use Rattle.ledger_campaigns.specs.Desks.{LedgerCalls, permits_given}
use Rattle.ledger_campaigns.specs.Uses.{Asked, MayAsk, IsNewUse, IsToldOutcome, SpeaksIfGiven}
use Rattle.ledger_campaigns.proofs.DeskLemmas.{given_both, in_first}

-- a permit that was given remains given
pub given_kept : {B : Type 0} (place : ℕ) (new old : LedgerCalls B)
    → StartsWith new old → IsIn place (permits_given old) → IsIn place (permits_given new)
given_kept place new old (rest, same) is = rw (same, given_both old rest)
    (in_first place (permits_given old) (permits_given rest) is)

-- a request that may be sent may also be sent if more is given
pub may_still : (verb : Verb) (given more : Type 0) → (given → more) → MayAsk verb given
    → MayAsk verb more
may_still Disconnect given more still may = still may
may_still Reconnect given more still may = still may
may_still ReadState given more still may = tt

-- the outcome of a connection on which a permit may have been refused
pub told_outcome : {K E : Type 0} (told : Option Forecast) (told_of : K → Option Forecast)
    (connection : K) (verb : Verb) (password : List ℕ) (client : Client)
    (result : Result Outcome E) → ConnectTells told told_of (Ok connection)
    → Stands verb password [] 0 false client
    → IfOk result (IsToldOutcome client (told_of connection))
    → IfOk result (λ outcome. IsOutcome told verb outcome ⊎ (outcome ≡ Unknown))
told_outcome told told_of connection verb password client (Err error) tells stands is = tt
told_outcome {K = K} {E = E} told told_of connection verb password client (Ok outcome) tells stands
    (inl converses) = inl (connected {K = K} {E = E} told told_of connection verb password client
    (Ok outcome) tells stands converses)
told_outcome told told_of connection verb password client (Ok outcome) tells stands
    (inr unknown) = inr unknown

-- the connection was closed
pub closed_use : {E : Type 0} (asked : Asked) (job : Job) (password : List ℕ) (client : Client)
    (before after : Option (List Happening)) (result : Result Outcome E)
    → Stands job.verb password [] 0 false client → IsNewLog before
    → SpeaksIfGiven job.verb asked client before result after
    → IsNewUse asked job password (row_in result) (closed job.address after)
closed_use asked job password client before after result stands new
    (inl (held, same, unknown)) = (refl, inl (held, rw same new, rw unknown refl))
closed_use asked job password client before after (Ok outcome) stands new
    (inr (may, stored, speaks)) = (
      refl,
      inr (
        may,
        stored,
        (tried_closed job password client before after (Ok outcome) stands new speaks).1,
      ),
    )
closed_use asked job password client before after (Err error) stands new
    (inr (may, stored, speaks)) = (
      refl,
      inr (
        may,
        tt,
        (tried_closed job password client before after (Err error) stands new speaks).1,
      ),
    )

-- the row of an outcome, or of none
pub row_of : {E : Type 0} (told : Option Forecast) (verb : Verb) (result : Result Outcome E)
    → IfOk result (λ outcome. IsOutcome told verb outcome ⊎ (outcome ≡ Unknown))
    → (tells : List ℕ → Option Forecast) (job : Job) → told ≡ tells job.address → verb ≡ job.verb
    → IsRow tells job (row_in result) ⊎ (row_in result ≡ Came Unknown)
row_of told verb (Err error) is tells job told_is verb_is = inl tt
row_of told verb (Ok outcome) (inl is) tells job told_is verb_is =
    inl (rw (← told_is, ← verb_is) is)
row_of told verb (Ok outcome) (inr unknown) tells job told_is verb_is = inr (rw unknown refl)
