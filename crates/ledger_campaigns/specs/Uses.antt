-- The row of a job and the use of its attempt, by the entry that the run found at its place.
--     MayAsk            a request that may be sent if a permit was given
--     Asked             what the ledger was asked for a job
--     IsHeldBack        the permit of a switching command was refused
--     IsNewUse          the use of an attempt by a job whose command was not sent before
--     IsUse             the use of an attempt by a job
--     IsRowFor          the row of a job
--     EndedWith         a job with an outcome had a conversation
--     HasSwitched       a switching command may have been sent, by the log of the connection
use Rattle.std.specs.Prelude.{◌≡◌, ◌≢◌, ◌⊎◌, ℕ, List, [], Option, Some, None, Result, Ok, IfOk, ⊤}
use Rattle.turn_lock.specs.Shown.{ShownPort}
use Rattle.client_core.specs.declared.client.Client.{Client}
use Rattle.client_core.specs.declared.job.Job.{Job}
use Rattle.client_core.specs.declared.job.Outcome.{Outcome}
use Rattle.client_core.specs.declared.job.Outcome.TheVariants.{Unknown}
use Rattle.client_core.specs.declared.job.Verb.{Verb}
use Rattle.client_core.specs.declared.job.Verb.TheVariants.{Disconnect, Reconnect, ReadState}
use Rattle.campaign_ledger.specs.declared.entry.LedgerEntry.{LedgerEntry}
use Rattle.campaign_ledger.specs.declared.entry.LedgerEntry.TheVariants.{NotSent, MaybeSent}
use Rattle.campaign_ledger.specs.declared.entry.LedgerEntry.TheVariants as entry
use Rattle.campaign_ledger.specs.Runs.{IsIn}
use Rattle.head_end.specs.declared.row.Row.{Row}
use Rattle.head_end.specs.declared.row.Row.TheVariants.{Came, Memory}
use Rattle.head_end.specs.Attempts.{State, unused, refused, connected, closed, HasRow}
use Rattle.head_end.specs.Connections.{Forecast}
use Rattle.head_end.specs.Conversations.{Speaks, Converses}
use Rattle.head_end.specs.Logs.{Happening, IsNewLog}
use Rattle.head_end.specs.Rows.{IsRow}
use Rattle.ledger_campaigns.specs.declared.request.LedgerRequest.{LedgerRequest}
use Rattle.ledger_campaigns.specs.declared.request.LedgerAnswer.{LedgerAnswer}
use Rattle.ledger_campaigns.specs.declared.request.LedgerRequest.TheVariants.{Record}
use Rattle.ledger_campaigns.specs.Desks.{LedgerCalls, permits_given, IsAskedToStore, IsRefused}
use Rattle.ledger_campaigns.specs.Desks.{HasNoPermit, HasRequest, HasRunOut}

-- whether the verb operates the switch
abbrev pub IsSwitching : Verb → Type 0
IsSwitching Disconnect = ⊤
IsSwitching Reconnect = ⊤
IsSwitching ReadState = ⊥

-- whether a request may be sent: a switching command only if the permit was given; a question needs
-- none
abbrev pub MayAsk : Verb → Type 0 → Type 0
MayAsk Disconnect given = given
MayAsk Reconnect given = given
MayAsk ReadState given = ⊤

-- whether the ledger was asked to store the outcome in a row; nothing is required if the job ran
-- out of memory
abbrev pub IfCame : Row → (Outcome → Type 0) → Type 0
IfCame (Came outcome) stored = stored outcome
IfCame Memory stored = ⊤

-- What the ledger was asked: whether the permit was given or refused, and which outcomes it was to
-- store.
pub record Asked : Type 1 where
  pub given : Type 0
  pub refused : Type 0
  pub stored : Outcome → Type 0

-- whether the permit of a switching command was refused
abbrev pub IsHeldBack : Verb → Asked → Type 0
IsHeldBack verb asked = IsSwitching verb × asked.refused

-- whether the permit of a switching command was refused and the connection was closed before
-- anything was sent or received, or it was used for a conversation that needs a permit only for a
-- switching command, and whose outcome is the row and is stored
abbrev pub IsClosedUse : Asked → Job → List ℕ → Row → Option (List Happening) → Type 0
IsClosedUse asked job password row log =
    (IsHeldBack job.verb asked × IsNewLog log × (row ≡ Came Unknown))
    ⊎ (MayAsk job.verb asked.given × IfCame row asked.stored × HasRow job.verb password row log)

-- Whether a use is that of the attempt by a job whose command was not sent before: unused, if out
-- of memory before the connect; a refused connect to the job's address; or one connection to this
-- address.
abbrev pub IsNewUse : Asked → Job → List ℕ → Row → State → Type 0
IsNewUse asked job password row unused = row ≡ Memory
IsNewUse asked job password row (refused address) = (address ≡ job.address) × (row ≡ Came Unknown)
IsNewUse asked job password row (connected address) = ⊥
IsNewUse asked job password row (closed address log) = (address ≡ job.address)
    × IsClosedUse asked job password row log

-- Whether a use is that of the attempt by a job: none, if its command may have been sent before.
abbrev pub IsUse : LedgerEntry → Asked → Job → List ℕ → Row → State → Type 0
IsUse NotSent asked job password row stage = IsNewUse asked job password row stage
IsUse MaybeSent asked job password row stage = stage ≡ unused
IsUse (entry.Came outcome) asked job password row stage = stage ≡ unused

-- what a port has asked: a permit that it has seen given or refused, and outcomes of the place,
-- unless all turns of the lock were drawn
abbrev pub asked_through : {B O : Type 0} → ℕ → ShownPort LedgerRequest (LedgerAnswer B) O → Asked
asked_through place port = record {
  given = IsIn place (permits_given port.known.seen);
  refused = IsRefused place port;
  stored = λ outcome. IsAskedToStore place outcome port;
}

-- what a ledger was asked by these calls: a permit that it gave or refused, and outcomes of the
-- place, unless all turns of the lock were drawn, by the port of the place
abbrev pub asked_within : {B O : Type 0} → ℕ → LedgerCalls B
    → ShownPort LedgerRequest (LedgerAnswer B) O → Asked
asked_within place calls port = record {
  given = IsIn place (permits_given calls);
  refused = HasNoPermit place calls ⊎ HasRunOut port;
  stored = λ outcome. HasRequest (Record place outcome) calls ⊎ HasRunOut port;
}

-- Whether a row is that of the job: the outcome that was found; unknown, if its command may have
-- been sent before or no permit was given; else that of its run.
abbrev pub IsRowFor : (List ℕ → Option Forecast) → Job → LedgerEntry → Row → Type 0
IsRowFor tells job NotSent row = IsRow tells job row ⊎ (row ≡ Came Unknown)
IsRowFor tells job MaybeSent row = row ≡ Came Unknown
IsRowFor tells job (entry.Came outcome) row = row ≡ Came outcome

-- whether something was sent or received on the attempt's connection, by its log
abbrev pub HasTalked : State → Type 0
HasTalked unused = ⊥
HasTalked (refused address) = ⊥
HasTalked (connected address) = ⊥
HasTalked (closed address None) = ⊥
HasTalked (closed address (Some log)) = log ≢ []

-- whether a job that has this outcome had a conversation, by the log of its connection; if there is
-- no log, by an outcome other than unknown
abbrev pub EndedWith : Outcome → State → Type 0
EndedWith outcome unused = ⊥
EndedWith outcome (refused address) = ⊥
EndedWith outcome (connected address) = ⊥
EndedWith outcome (closed address None) = outcome ≢ Unknown
EndedWith outcome (closed address (Some log)) = log ≢ []

-- Whether a switching command may have been sent: the log of the connection is not empty.
abbrev pub HasSwitched : Verb → State → Type 0
HasSwitched verb stage = IsSwitching verb × HasTalked stage

-- ---- a conversation that needs a permit

-- whether the outcome is that of a conversation, or unknown without one
abbrev pub IsToldOutcome : Client → Option Forecast → Outcome → Type 0
IsToldOutcome client before outcome = Converses client before outcome ⊎ (outcome ≡ Unknown)

-- whether the permit of a switching command was refused, nothing was sent or received and the
-- outcome is unknown, or a conversation took place whose request may be sent and whose outcome the
-- ledger was asked to store
abbrev pub SpeaksIfGiven : {E : Type 0} → Verb → Asked → Client → Option (List Happening)
    → Result Outcome E → Option (List Happening) → Type 0
SpeaksIfGiven verb asked client before result after =
    (IsHeldBack verb asked × (after ≡ before) × (result ≡ Ok Unknown))
    ⊎ (MayAsk verb asked.given × IfOk result asked.stored × Speaks client before result after)
