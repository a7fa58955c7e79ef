-- A run as a whole: its permits, what they were used for, and why it is safe.
use Rattle.std.proofs.Common.{arith, ◌≡◌, ◌<◌, ℕ, List, [], ◌++◌, length, map, take, slice_index_or}
use Rattle.std.proofs.Common.{◌⊎◌, Option, Some, None, false, refl, ap, ◌∙◌, inl, inr}
use Rattle.std.proofs.lemmas.List.{get_or-map, take_at}
use Rattle.std.specs.List.{All}
use Rattle.std.specs.Prelude.{IfSome}
use Rattle.turn_lock.specs.declared.known.Known.{Known}
use Rattle.turn_lock.specs.Calls.{IsLegal}
use Rattle.turn_lock.specs.History.{StartsWith}
use Rattle.turn_lock.specs.Shown.{ShownPort, IsSame}
use Rattle.turn_lock.proofs.Lists.{starts_trans}
use Rattle.client_core.specs.declared.job.Job.{Job}
use Rattle.client_core.specs.declared.job.Outcome.{Outcome}
use Rattle.client_core.specs.declared.job.Outcome.TheVariants.{Unknown}
use Rattle.client_core.specs.declared.job.Verb.{Verb}
use Rattle.client_core.specs.declared.job.Verb.TheVariants.{Disconnect, Reconnect, ReadState}
use Rattle.campaign_ledger.specs.declared.entry.LedgerEntry.{LedgerEntry}
use Rattle.campaign_ledger.specs.declared.entry.LedgerEntry.TheVariants.{NotSent, MaybeSent, Came}
use Rattle.campaign_ledger.specs.Entries.{entry_at}
use Rattle.campaign_ledger.specs.Grants.{LedgerState, Grants, MakesSafeRuns}
use Rattle.campaign_ledger.specs.Runs.{IsIn, AreApart}
use Rattle.head_end.specs.declared.row.Row.{Row}
use Rattle.head_end.specs.declared.row.Row.TheVariants as rows
use Rattle.head_end.specs.declared.row.ReportLine.{ReportLine}
use Rattle.head_end.specs.Attempts.{State, unused, refused, connected, closed}
use Rattle.head_end.specs.Campaigns.{EachChange}
use Rattle.ledger_campaigns.specs.declared.request.LedgerRequest.{LedgerRequest}
use Rattle.ledger_campaigns.specs.declared.request.LedgerRequest.TheVariants.{Record}
use Rattle.ledger_campaigns.specs.declared.request.LedgerAnswer.{LedgerAnswer}
use Rattle.ledger_campaigns.specs.Campaigns.{AreUsesBy, AreStored, AreSwitched, Closes}
use Rattle.ledger_campaigns.specs.Campaigns.{IsLedgeredRun}
use Rattle.ledger_campaigns.specs.Desks.{LedgerCalls, IsLegalHistory, permits_given}
use Rattle.ledger_campaigns.specs.Desks.{HasOutcome, HasRequest, HasRunOut}
use Rattle.ledger_campaigns.specs.Uses.{Asked, IsUse, MayAsk, IsSwitching, HasSwitched}
use Rattle.ledger_campaigns.specs.Uses.{EndedWith, asked_within}
use Rattle.ledger_campaigns.proofs.OutcomeLemmas.{outcomes_in}
use Rattle.ledger_campaigns.proofs.PlaceLemmas.{an_element, uses_all}

-- the elements written to all indexes of a list are its elements
pub written : {T : Type 0} (n : ℕ) (xs ys : List T) → n ≡ length xs → take n (xs ++ ys) ≡ xs
written n xs ys is = rw is (take_at xs ys (length xs) refl)

-- all ports are of the same lock as before
pub locks_kept : {X E R O : Type 0} (old new : List X) (port_of : X → ShownPort E R O)
    (port : ShownPort E R O) → length new ≡ length old
    → EachChange (λ i o n. IsSame (port_of o) (port_of n)) old new
    → All (λ x. (port_of x).lock ≡ port.lock) old → All (λ x. (port_of x).lock ≡ port.lock) new
locks_kept old new port_of port same each all = λ i x below.
    (each i x (omega (arith, same, below))).lock ∙ all i x (omega (arith, same, below))

-- all connectors predict the same
pub told_all : {X C T : Type 0} (places : List X) (source_of : X → C) (connector : C)
    (tells_of : C → T) → All (λ x. source_of x ≡ connector) places
    → All (λ x. tells_of (source_of x) ≡ tells_of connector) places
told_all places source_of connector tells_of all = λ i x below. ap tells_of (all i x below)

-- a port that met the ports of all places has seen what the port of a place has seen
pub seen_kept : {X B O : Type 0} (places : List X)
    (port_of : X → ShownPort LedgerRequest (LedgerAnswer B) O) (seen : LedgerCalls B)
    → All (λ x. StartsWith seen (port_of x).known.seen) places
    → (port : ShownPort LedgerRequest (LedgerAnswer B) O) (i : ℕ) → i < length places
    → StartsWith seen (slice_index_or (map port_of places) i port).known.seen
seen_kept {X} places port_of seen all port i below =
    let x = an_element places i below in
    rw (get_or-map port_of places i x port below) (all i x below)

-- a switching command is sent with a permit
switched_given : (entry : LedgerEntry) (asked : Asked) (job : Job) (password : List ℕ) (row : Row)
    (stage : State) → IsUse entry asked job password row stage → HasSwitched job.verb stage
    → asked.given
switched_given NotSent asked job password row unused is (switching, talked) = absurd talked
switched_given NotSent asked job password row (refused address) is (switching, talked) =
    absurd talked
switched_given NotSent asked job password row (connected address) is (switching, talked) =
    absurd talked
switched_given NotSent asked job password row (closed address None) is (switching, talked) =
    absurd talked
switched_given NotSent asked job password row (closed address (Some log))
    (same, inl (held, new, unknown)) (switching, talked) = absurd (talked new)
switched_given NotSent asked job password row (closed address (Some log))
    (same, inr (may, stored, row_is)) (switching, talked) = with_permit job.verb switching may
  where
    with_permit : (verb : Verb) → IsSwitching verb → MayAsk verb asked.given → asked.given
    with_permit Disconnect switching may = may
    with_permit Reconnect switching may = may
    with_permit ReadState switching may = absurd switching
switched_given MaybeSent asked job password row stage is (switching, talked) =
    absurd (rw is at talked)
switched_given (Came outcome) asked job password row stage is (switching, talked) =
    absurd (rw is at talked)

-- the outcome of a conversation was to be stored
talked_stored : (entry : LedgerEntry) (asked : Asked) (job : Job) (password : List ℕ) (row : Row)
    (stage : State) (outcome : Outcome) → IsUse entry asked job password row stage
    → EndedWith outcome stage → row ≡ rows.Came outcome → asked.stored outcome
talked_stored NotSent asked job password row unused outcome is talked came = absurd talked
talked_stored NotSent asked job password row (refused address) outcome is talked came =
    absurd talked
talked_stored NotSent asked job password row (connected address) outcome is talked came =
    absurd talked
talked_stored NotSent asked job password row (closed address None) outcome
    (same, inl (held, new, unknown)) talked came =
    absurd (talked (let is : outcome ≡ Unknown = cc in is))
talked_stored NotSent asked job password row (closed address None) outcome
    (same, inr (may, stored, row_is)) talked came = rw came at stored
talked_stored NotSent asked job password row (closed address (Some log)) outcome
    (same, inl (held, new, unknown)) talked came = absurd (talked new)
talked_stored NotSent asked job password row (closed address (Some log)) outcome
    (same, inr (may, stored, row_is)) talked came = rw came at stored
talked_stored MaybeSent asked job password row stage outcome is talked came =
    absurd (rw is at talked)
talked_stored (Came known) asked job password row stage outcome is talked came =
    absurd (rw is at talked)

module _ {B : Type 0} (is_honest : B → Type 0) (is_marked : B → ℕ → Type 0)
    (keeps : B → ℕ → Outcome → Type 0) where
  -- the run, by what a port has seen that met all others
  pub run_by : {O : Type 0} (jobs : List Job) (passwords : List (List ℕ))
      (start : LedgerState B) (now : Option (LedgerState B)) (lines : List ReportLine)
      (stages : List State) (ports : List (ShownPort LedgerRequest (LedgerAnswer B) O))
      (known : Known LedgerRequest (LedgerAnswer B) (LedgerState B))
      → length ports ≡ length jobs → known.origin ≡ Some start
      → AreUsesBy jobs start.entries passwords ports lines stages
      → ((port : ShownPort LedgerRequest (LedgerAnswer B) O) (i : ℕ) → i < length jobs
      → StartsWith known.seen (slice_index_or ports i port).known.seen)
      → IsLegal (IsLegalHistory is_honest is_marked keeps) known
      → IfSome now (Closes is_honest is_marked keeps known)
      → IsLedgeredRun is_honest is_marked keeps jobs passwords start now lines stages ports
  run_by jobs passwords start None lines stages ports known count origin uses seen legal end =
      let same : legal.origin ≡ start = cc in
      record {
        count = count;
        calls = known.seen;
        legal = rw same at legal.legal_history;
        uses = λ port. uses_all jobs start.entries passwords ports known.seen lines stages port uses
            (seen port);
        grants = tt;
        outcomes = tt;
      }
  run_by jobs passwords start (Some ledger) lines stages ports known count origin uses seen legal
      end =
      let began : end.start ≡ start = cc in
      record {
        count = count;
        calls = end.calls;
        legal = rw began at end.legal;
        uses = λ port. uses_all jobs start.entries passwords ports end.calls lines stages port uses
            (λ i below. starts_trans end.calls known.seen
            (slice_index_or ports i port).known.seen end.seen (seen port i below));
        grants = rw began at end.results.grants;
        outcomes = rw began at (outcomes_in is_honest is_marked keeps end.start ledger end.calls
            end.results.answers end.results.last_is);
      }

  -- the commands of a run make it safe
  pub run_safe : {O : Type 0} (may_leave : B → (ℕ → LedgerEntry) → Type 0)
      → ((before after : LedgerState B) (permits sent : List ℕ)
      → Grants is_honest is_marked before after permits → AreApart sent
      → ((place : ℕ) → IsIn place sent → IsIn place permits)
      → MakesSafeRuns is_honest is_marked may_leave before after sent)
      → (jobs : List Job) (passwords : List (List ℕ)) (start : LedgerState B)
      (now : Option (LedgerState B)) (lines : List ReportLine) (stages : List State)
      (ports : List (ShownPort LedgerRequest (LedgerAnswer B) O)) → length lines ≡ length jobs
      → IsLedgeredRun is_honest is_marked keeps jobs passwords start now lines stages ports
      → IfSome now (λ ledger. (sent : List ℕ) → AreApart sent → AreSwitched jobs stages sent
      → MakesSafeRuns is_honest is_marked may_leave start ledger sent)
  run_safe may_leave law jobs passwords start None lines stages ports long run = tt
  run_safe may_leave law jobs passwords start (Some ledger) lines stages ports long run =
      λ sent apart switched. law start ledger (permits_given run.calls) sent
      run.grants apart (λ place is.
      let below = (switched place is).0 in
      let job = an_element jobs place below in
      let line = an_element lines place (omega (arith, long, below)) in
      let port = an_element ports place (omega (arith, run.count, below)) in
      switched_given (entry_at start.entries place)
      (asked_within place run.calls (slice_index_or ports place port))
      (slice_index_or jobs place job) (slice_index_or passwords place [])
      (slice_index_or lines place line).row
      (slice_index_or stages place unused) (run.uses port place job [] line below)
      ((switched place is).1 job))

  stored_by : {O : Type 0} (jobs : List Job) (passwords : List (List ℕ)) (start : LedgerState B)
      (ledger : LedgerState B) (lines : List ReportLine) (stages : List State)
      (ports : List (ShownPort LedgerRequest (LedgerAnswer B) O))
      → length start.entries ≡ length jobs
      → IsLedgeredRun is_honest is_marked keeps jobs passwords start (Some ledger) lines stages
      ports → ledger.has_failed ≡ false
      → AreStored is_honest is_marked keeps jobs lines stages ports ledger
  stored_by jobs passwords start ledger lines stages ports long run ok place line outcome port below
      talked came =
      let job = an_element jobs place below in
      of_case (talked_stored (entry_at start.entries place)
      (asked_within place run.calls (slice_index_or ports place port))
      (slice_index_or jobs place job) (slice_index_or passwords place [])
      (slice_index_or lines place line).row (slice_index_or stages place unused) outcome
      (run.uses port place job [] line below) talked came)
    where
      of_case : HasRequest (Record place outcome) run.calls
          ⊎ HasRunOut (slice_index_or ports place port)
          → HasOutcome is_honest is_marked keeps place outcome ledger
          ⊎ HasRunOut (slice_index_or ports place port)
      of_case (inl asked) = inl
          (run.outcomes ok place outcome (omega (arith, long, below)) asked)
      of_case (inr out) = inr out

  -- the outcomes of the jobs that had a conversation are in the ledger
  pub run_stored : {O : Type 0} (jobs : List Job) (passwords : List (List ℕ))
      (start : LedgerState B) (now : Option (LedgerState B)) (lines : List ReportLine)
      (stages : List State) (ports : List (ShownPort LedgerRequest (LedgerAnswer B) O))
      → length start.entries ≡ length jobs
      → IsLedgeredRun is_honest is_marked keeps jobs passwords start now lines stages ports
      → IfSome now (λ ledger. ledger.has_failed ≡ false
      → AreStored is_honest is_marked keeps jobs lines stages ports ledger)
  run_stored jobs passwords start None lines stages ports long run = tt
  run_stored jobs passwords start (Some ledger) lines stages ports long run =
      stored_by jobs passwords start ledger lines stages ports long run

  -- a run whose places are the elements written to all indexes of a list
  pub taken_run : {X O : Type 0} (n : ℕ) (places rest : List X) (stage_of : X → State)
      (port_of : X → ShownPort LedgerRequest (LedgerAnswer B) O)
      (jobs : List Job) (passwords : List (List ℕ)) (start : LedgerState B)
      (now : Option (LedgerState B)) (lines : List ReportLine) → n ≡ length places
      → IsLedgeredRun is_honest is_marked keeps jobs passwords start now lines
      (map stage_of places) (map port_of places)
      → IsLedgeredRun is_honest is_marked keeps jobs passwords start now lines
      (map stage_of (take n (places ++ rest))) (map port_of (take n (places ++ rest)))
  taken_run n places rest stage_of port_of jobs passwords start now lines long run =
      rw (written n places rest long) run
