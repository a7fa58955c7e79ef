-- The lines of all jobs and the uses of their attempts, from the results of the places.
use Rattle.std.proofs.Common.{arith, ◌≡◌, ◌<◌, ℕ, List, [], ◌∷◌, length, map, slice_index_or}
use Rattle.std.proofs.Common.{Option, sym, ap, subst, ◌∙◌, zero, suc, inl, inr}
use Rattle.std.proofs.lemmas.List.{get_or-map, length-map}
use Rattle.std.proofs.lemmas.List.Elements.{All-get_or}
use Rattle.std.specs.List.{All}
use Rattle.turn_lock.specs.History.{StartsWith}
use Rattle.turn_lock.specs.Shown.{ShownPort}
use Rattle.client_core.specs.declared.job.Job.{Job}
use Rattle.client_core.specs.declared.job.Outcome.{Outcome}
use Rattle.campaign_ledger.specs.declared.entry.LedgerEntry.{LedgerEntry}
use Rattle.campaign_ledger.specs.declared.entry.LedgerEntry.TheVariants.{NotSent, MaybeSent, Came}
use Rattle.campaign_ledger.specs.Entries.{entry_at}
use Rattle.head_end.specs.declared.row.Row.{Row}
use Rattle.head_end.specs.declared.row.Row.TheVariants as row
use Rattle.head_end.specs.declared.row.ReportLine.{ReportLine}
use Rattle.head_end.specs.Attempts.{State, unused, refused, connected, closed}
use Rattle.head_end.specs.Campaigns.{EachChange}
use Rattle.head_end.specs.Connections.{Forecast}
use Rattle.ledger_campaigns.specs.declared.request.LedgerRequest.{LedgerRequest}
use Rattle.ledger_campaigns.specs.declared.request.LedgerRequest.TheVariants.{Record}
use Rattle.ledger_campaigns.specs.declared.request.LedgerAnswer.{LedgerAnswer}
use Rattle.ledger_campaigns.specs.Campaigns.{IsPlaceRun, AreLinesFor, AreUses, AreUsesBy}
use Rattle.ledger_campaigns.specs.Desks.{LedgerCalls}
use Rattle.ledger_campaigns.specs.Uses.{Asked, IfCame, IsUse, IsRowFor, asked_through, asked_within}
use Rattle.ledger_campaigns.proofs.CampaignLemmas.{Gathers}
use Rattle.ledger_campaigns.proofs.DeskLemmas.{kept_or, no_permit_kept, request_kept}
use Rattle.ledger_campaigns.proofs.RunningLemmas.{given_kept, may_still}

-- lines that have the same names as the jobs
pub same_length : (jobs : List Job) (lines : List ReportLine) → map (λ (l : ReportLine). l.id) lines
    ≡ map (λ (j : Job). j.id) jobs → length lines ≡ length jobs
same_length jobs lines same = sym (length-map lines (λ (l : ReportLine). l.id)) ∙ ap length same
    ∙ length-map jobs (λ (j : Job). j.id)

same_ids : (jobs : List Job) (lines : List ReportLine) → map (λ (l : ReportLine). l.id) lines
    ≡ map (λ (j : Job). j.id) jobs
    → (i : ℕ) (job : Job) (line : ReportLine) → i < length jobs → (slice_index_or lines i line).id
    ≡ (slice_index_or jobs i job).id
same_ids [] lines same i job line below = absurd (omega arith)
same_ids (j ∷ jobs) [] same i job line below = absurd cc
same_ids (j ∷ jobs) (l ∷ lines) same zero job line below = cc
same_ids (j ∷ jobs) (l ∷ lines) same (suc i) job line below = same_ids jobs lines
    (let tails : map (λ (l : ReportLine). l.id) lines ≡ map (λ (j : Job). j.id) jobs = cc in tails)
    i job line (omega arith)

-- an element of a list that has one
pub an_element : {X : Type 0} (xs : List X) (i : ℕ) → i < length xs → X
an_element [] i below = absurd (omega arith)
an_element (x ∷ xs) i below = x

-- the row of a place, by its index
row_at : {X B O : Type 0} (old new : List X) (tells_of : X → List ℕ → Option Forecast)
    (port_of : X → ShownPort LedgerRequest (LedgerAnswer B) O) (row_of : X → Row)
    (stage_of : X → State) (jobs : List Job) (found : List LedgerEntry)
    (passwords : List (List ℕ)) → length old ≡ length jobs
    → length new ≡ length old
    → EachChange (λ i o n. IsPlaceRun jobs found passwords i (tells_of o) (port_of n) (row_of n)
    (stage_of n)) old new
    → (tells : List ℕ → Option Forecast) → All (λ o. tells_of o ≡ tells) old
    → (i : ℕ) (job : Job) (row : Row) → i < length jobs
    → IsRowFor tells (slice_index_or jobs i job) (entry_at found i)
    (slice_index_or (map row_of new) i row)
row_at {X = X} old new tells_of port_of row_of stage_of jobs found passwords count same each tells
    all i job row below =
    let within : i < length old = omega arith in
    let x = an_element old i within in
    let told : tells_of (slice_index_or old i x) ≡ tells = All-get_or (λ (o : X). tells_of o
    ≡ tells) old i x within all in
    let is : IsRowFor tells (slice_index_or jobs i job) (entry_at found i)
    (row_of (slice_index_or new i x)) =
    subst (λ (t : List ℕ → Option Forecast). IsRowFor t (slice_index_or jobs i job)
    (entry_at found i) (row_of (slice_index_or new i x))) told ((each i x within).row_is job) in
    let mapped : slice_index_or (map row_of new) i row ≡ row_of (slice_index_or new i x) =
    get_or-map row_of new i x row (omega arith) in
    subst (λ (r : Row). IsRowFor tells (slice_index_or jobs i job) (entry_at found i) r)
    (sym mapped) is

-- the use of its attempt by the job of a place
use_at : {X B O : Type 0} (old new : List X) (tells_of : X → List ℕ → Option Forecast)
    (port_of : X → ShownPort LedgerRequest (LedgerAnswer B) O) (row_of : X → Row)
    (stage_of : X → State) (jobs : List Job) (found : List LedgerEntry)
    (passwords : List (List ℕ)) → length old ≡ length jobs
    → length new ≡ length old
    → EachChange (λ i o n. IsPlaceRun jobs found passwords i (tells_of o) (port_of n) (row_of n)
    (stage_of n)) old new
    → (port : ShownPort LedgerRequest (LedgerAnswer B) O) (i : ℕ) (job : Job) (password : List ℕ)
    (row : Row) → i < length jobs
    → IsUse (entry_at found i) (asked_through i (slice_index_or (map port_of new) i port))
    (slice_index_or jobs i job) (slice_index_or passwords i password)
    (slice_index_or (map row_of new) i row) (slice_index_or (map stage_of new) i unused)
use_at old new tells_of port_of row_of stage_of jobs found passwords count same each port
    i job password row below =
    let within : i < length old = omega arith in
    let x = an_element old i within in
    rw (
      get_or-map row_of new i x row (omega arith),
      get_or-map stage_of new i x unused (omega arith),
      get_or-map port_of new i x port (omega arith),
    ) ((each i x within).use_is job password)

-- the lines of all jobs
pub lines_for : {X B O : Type 0} (old new : List X) (tells_of : X → List ℕ → Option Forecast)
    (port_of : X → ShownPort LedgerRequest (LedgerAnswer B) O) (row_of : X → Row)
    (stage_of : X → State) (jobs : List Job) (found : List LedgerEntry)
    (passwords : List (List ℕ)) → length old ≡ length jobs
    → length new ≡ length old
    → EachChange (λ i o n. IsPlaceRun jobs found passwords i (tells_of o) (port_of n) (row_of n)
    (stage_of n)) old new
    → (blank lines : List ReportLine) → map (λ (l : ReportLine). l.id) blank
    ≡ map (λ (j : Job). j.id) jobs → Gathers blank (map row_of new) (length blank) lines
    → (tells : List ℕ → Option Forecast) → All (λ o. tells_of o ≡ tells) old
    → AreLinesFor tells jobs found lines
lines_for old new tells_of port_of row_of stage_of jobs found passwords count same each blank
    lines names gathers tells all =
    let long : length blank ≡ length jobs = same_length jobs blank names in
    record {
      count = gathers.len ∙ long;
      of_jobs = λ i job line below. record {
        id_is = gathers.ids i line (omega arith) ∙ same_ids jobs blank names i job line below;
        row_is = rw (gathers.rows i line (slice_index_or lines i line).row (omega arith))
            (row_at old new tells_of port_of row_of stage_of jobs found passwords count same each
            tells all i job (slice_index_or lines i line).row below);
      };
    }

-- the uses of their attempts by all jobs, by what the port of each place has asked
pub uses_by : {X B O : Type 0} (old new : List X) (tells_of : X → List ℕ → Option Forecast)
    (port_of : X → ShownPort LedgerRequest (LedgerAnswer B) O) (row_of : X → Row)
    (stage_of : X → State) (jobs : List Job) (found : List LedgerEntry)
    (passwords : List (List ℕ)) → length old ≡ length jobs
    → length new ≡ length old
    → EachChange (λ i o n. IsPlaceRun jobs found passwords i (tells_of o) (port_of n) (row_of n)
    (stage_of n)) old new
    → (blank lines : List ReportLine) → map (λ (l : ReportLine). l.id) blank
    ≡ map (λ (j : Job). j.id) jobs → Gathers blank (map row_of new) (length blank) lines
    → AreUsesBy jobs found passwords (map port_of new) lines (map stage_of new)
uses_by old new tells_of port_of row_of stage_of jobs found passwords count same each blank lines
    names gathers port i job password line below =
    let long : length blank ≡ length jobs = same_length jobs blank names in
    rw (gathers.rows i line (slice_index_or lines i line).row (omega arith))
    (use_at old new tells_of port_of row_of stage_of jobs found passwords count same each port i
    job password (slice_index_or lines i line).row below)

-- a row whose outcome is stored
came_still : (row : Row) (stored more : Outcome → Type 0)
    → ((outcome : Outcome) → stored outcome → more outcome) → IfCame row stored → IfCame row more
came_still (row.Came outcome) stored more still is = still outcome is
came_still row.Memory stored more still is = tt

-- a use for which less was asked
pub use_still : (entry : LedgerEntry) (asked more : Asked) (job : Job) (password : List ℕ)
    (row : Row) (stage : State) → (asked.given → more.given) → (asked.refused → more.refused)
    → ((outcome : Outcome) → asked.stored outcome → more.stored outcome)
    → IsUse entry asked job password row stage → IsUse entry more job password row stage
use_still NotSent asked more job password row unused still held also use_is = use_is
use_still NotSent asked more job password row (refused address) still held also use_is = use_is
use_still NotSent asked more job password row (connected address) still held also use_is = use_is
use_still NotSent asked more job password row (closed address log) still held also
    (same, inl ((switching, unasked), new, unknown)) =
    (same, inl ((switching, held unasked), new, unknown))
use_still NotSent asked more job password row (closed address log) still held also
    (same, inr (may, stored, row_is)) = (
      same,
      inr (
        may_still job.verb asked.given more.given still
            may,
        came_still row asked.stored more.stored also stored,
        row_is,
      ),
    )
use_still MaybeSent asked more job password row stage still held also use_is = use_is
use_still (Came outcome) asked more job password row stage still held also use_is = use_is

-- the uses of their attempts by all jobs, by calls that begin with those that the ports have seen
pub uses_all : {B O : Type 0} (jobs : List Job) (found : List LedgerEntry)
    (passwords : List (List ℕ)) (ports : List (ShownPort LedgerRequest (LedgerAnswer B) O))
    (calls : LedgerCalls B) (lines : List ReportLine) (stages : List State)
    (port : ShownPort LedgerRequest (LedgerAnswer B) O)
    → AreUsesBy jobs found passwords ports lines stages
    → ((i : ℕ) → i < length jobs → StartsWith calls (slice_index_or ports i port).known.seen)
    → AreUses jobs found passwords
    (λ place. asked_within place calls (slice_index_or ports place port)) lines stages
uses_all jobs found passwords ports calls lines stages port uses seen i job password line below =
    let its = slice_index_or ports i port in
    use_still (entry_at found i) (asked_through i its) (asked_within i calls its) _ _ _ _
    (given_kept i calls its.known.seen (seen i below))
    (kept_or (no_permit_kept i calls its.known.seen (seen i below)))
    (λ outcome. kept_or (request_kept (Record i outcome) calls its.known.seen (seen i below)))
    (uses port i job password line below)
