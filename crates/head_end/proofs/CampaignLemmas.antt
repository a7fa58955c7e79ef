-- Lines that are filled with their rows one by one, and the lines of all jobs.
use Rattle.std.proofs.Common.{◌≡◌, ◌+◌, ◌<◌, ◌*◌, ℕ, zero, suc, List, [], ◌∷◌, ◌++◌, length, take, map, slice_index_or, replicate, Option, Result, Ok, Err, IfOk, refl, sym, ap, subst, ◌∙◌, ◌≤◌, arith}
use Rattle.std.proofs.lemmas.List.{take_at, length-map, get_or-replicate}
use Rattle.std.proofs.lemmas.List.{get_or-map}
use Rattle.std.proofs.lemmas.List.Elements.{All-get_or}
use Rattle.std.proofs.lemmas.Grind.{common_steps}
use Rattle.std.specs.List.{All}
use Rattle.head_end.proofs.Places.{place_back, slot_below}
use Rattle.client_core.specs.declared.job.Job.{Job}
use Rattle.head_end.specs.declared.row.Row.{Row}
use Rattle.head_end.specs.declared.row.ReportLine.{ReportLine}
use Rattle.head_end.specs.Connections.{Forecast}
use Rattle.head_end.specs.Attempts.{State, unused, IsTried}
use Rattle.head_end.specs.Campaigns.{place_at, slot_at, IsRun, EachChange, AreTried, AreTriedWith}
use Rattle.head_end.specs.Rows.{IsRow, IsLine, AreLines}

-- the first lines have the rows of their slots, and all keep their names
pub record Gathers (turns workers : ℕ) (old : List ReportLine) (slots : List Row) (done : ℕ)
    (new : List ReportLine) : Type 0 where
  pub rows : (i : ℕ) (line : ReportLine) (row : Row) → i < done → (slice_index_or new i line).row
      ≡ slice_index_or slots (slot_at turns workers i) row
  pub ids : (i : ℕ) (line : ReportLine) → i < length old → (slice_index_or new i line).id
      ≡ (slice_index_or old i line).id
  pub len : length new ≡ length old

-- lines that are correct at each index
pub are_lines : (tells : List ℕ → Option Forecast) (jobs : List Job) (lines : List ReportLine)
    → length lines ≡ length jobs
    → ((i : ℕ) (job : Job) (line : ReportLine) → i < length jobs
    → IsLine tells (slice_index_or jobs i job) (slice_index_or lines i line))
    → AreLines tells jobs lines
are_lines tells [] [] same each = tt
are_lines tells [] (line ∷ lines) same each = absurd (omega arith)
are_lines tells (job ∷ jobs) [] same each = absurd (omega arith)
are_lines tells (job ∷ jobs) (line ∷ lines) same each = (
  each 0 job line (omega arith),
  are_lines tells jobs lines (omega arith)
      (λ i j l below. each (suc i) j l (omega arith)),
)

-- one name more
pub ids_more : (jobs : List Job) (i : ℕ) (job : Job) (lines new : List ReportLine)
    (line : ReportLine) → i < length jobs → job ≡ slice_index_or jobs i job → line.id ≡ job.id
    → map (λ (l : ReportLine). l.id) lines ≡ map (λ (j : Job). j.id) (take i jobs) → new ≡ lines
    ++ line ∷ [] → map (λ (l : ReportLine). l.id) new
    ≡ map (λ (j : Job). j.id) (take (i + 1) jobs)
ids_more jobs i job lines new line below is id_is before same = grind (arith, common_steps)

-- lines that have the same names as the jobs
pub same_length : (jobs : List Job) (lines : List ReportLine) → map (λ (l : ReportLine). l.id) lines
    ≡ map (λ (j : Job). j.id) jobs → length lines ≡ length jobs
same_length jobs lines same = sym (length-map lines (λ (l : ReportLine). l.id)) ∙ ap length same
    ∙ length-map jobs (λ (j : Job). j.id)

same_ids : (jobs : List Job) (lines : List ReportLine) → map (λ (l : ReportLine). l.id) lines
    ≡ map (λ (j : Job). j.id) jobs
    → (i : ℕ) (job : Job) (line : ReportLine) → i < length jobs → (slice_index_or lines i line).id
    ≡ (slice_index_or jobs i job).id
same_ids [] lines same i job line below = absurd (omega arith)
same_ids (j ∷ jobs) [] same i job line below = absurd cc
same_ids (j ∷ jobs) (l ∷ lines) same zero job line below = cc
same_ids (j ∷ jobs) (l ∷ lines) same (suc i) job line below = same_ids jobs lines
    (let tails : map (λ (l : ReportLine). l.id) lines ≡ map (λ (j : Job). j.id) jobs = cc in tails)
    i job line (omega arith)

-- lines with the same name at each index have the same names
pub same_names : (old new : List ReportLine) → length new ≡ length old
    → ((i : ℕ) (line : ReportLine) → i < length old
    → (slice_index_or new i line).id ≡ (slice_index_or old i line).id)
    → map (λ (l : ReportLine). l.id) new ≡ map (λ (l : ReportLine). l.id) old
same_names [] [] same each = refl
same_names [] (n ∷ new) same each = absurd (omega arith)
same_names (o ∷ old) [] same each = absurd (omega arith)
same_names (o ∷ old) (n ∷ new) same each =
    let first : n.id ≡ o.id = each 0 o (omega arith) in
    let others = same_names old new (omega arith)
    (λ i line below. each (suc i) line (omega arith)) in
    cc

-- the lines of a campaign are correct
pub campaign_lines : (tells : List ℕ → Option Forecast) (turns workers : ℕ) (jobs : List Job)
    (blank lines : List ReportLine) (slots : List Row)
    → 0 < workers → length jobs < turns * workers → map (λ (l : ReportLine). l.id) blank
    ≡ map (λ (j : Job). j.id) jobs
    → ((slot : ℕ) (job : Job) (row : Row) → slot < turns * workers
    → place_at turns workers slot < length jobs
    → IsRow tells (slice_index_or jobs (place_at turns workers slot) job)
    (slice_index_or slots slot row))
    → Gathers turns workers blank slots (length blank) lines → AreLines tells jobs lines
campaign_lines tells turns workers jobs blank lines slots some few same rows gathers =
    let long : length blank ≡ length jobs = same_length jobs blank same in
    are_lines tells jobs lines (gathers.len ∙ long)
    (λ i job line below. record {
      id_is = gathers.ids i line (omega arith) ∙ same_ids jobs blank same i job line below;
      row_is =
          let back = place_back turns workers i some (omega arith) in
          let slot = slot_below turns workers i some (omega arith) in
          let there : place_at turns workers (slot_at turns workers i) < length jobs =
          rw back below in
          let row = rows (slot_at turns workers i) job (slice_index_or lines i line).row slot there
          in
          rw (gathers.rows i line (slice_index_or lines i line).row (omega arith)) (rw back at row);
    })

-- ---- places

-- an element of a list that has one
an_element : {X : Type 0} (xs : List X) (i : ℕ) → i < length xs → X
an_element [] i below = absurd (omega arith)
an_element (x ∷ xs) i below = x

-- the row of a slot, by its index
pub row_at : {X : Type 0} (old new : List X) (tells_of : X → List ℕ → Option Forecast) (stage_of : X
    → State) (row_of : X → Row) (tells : List ℕ → Option Forecast)
    (turns workers : ℕ) (jobs : List Job) (passwords : List (List ℕ)) → length old ≡ turns * workers
    → length new ≡ length old
    → EachChange (λ slot o n. IsRun turns workers jobs passwords slot (tells_of o) (stage_of n)
    (row_of n)) old new → All (λ o. tells_of o ≡ tells) old
    → (slot : ℕ) (job : Job) (row : Row) → slot < turns * workers
    → place_at turns workers slot < length jobs
    → IsRow tells (slice_index_or jobs (place_at turns workers slot) job) (slice_index_or
    (map row_of new) slot row)
row_at {X} old new tells_of stage_of row_of tells turns workers jobs passwords count same each all
    slot job row below there =
    let within : slot < length old = omega arith in
    let x = an_element old slot within in
    let run = each slot x within in
    let told : tells_of (slice_index_or old slot x) ≡ tells = All-get_or (λ (o : X). tells_of o
    ≡ tells) old slot x within all in
    let is : IsRow tells (slice_index_or jobs (place_at turns workers slot) job) (row_of
    (slice_index_or new slot x)) =
    subst (λ (t : List ℕ → Option Forecast). IsRow t (slice_index_or jobs
    (place_at turns workers slot) job) (row_of (slice_index_or new slot x))) told
    (run.row_is job there) in
    let mapped : slice_index_or (map row_of new) slot row ≡ row_of
    (slice_index_or new slot x) = get_or-map row_of new slot x row (omega arith) in
    subst (λ (r : Row). IsRow tells (slice_index_or jobs (place_at turns workers slot) job) r)
    (sym mapped) is

-- the use of its attempt by the job of a slot
tried_at : {X : Type 0} (old new : List X) (tells_of : X → List ℕ → Option Forecast) (stage_of : X
    → State) (row_of : X → Row)
    (turns workers : ℕ) (jobs : List Job) (passwords : List (List ℕ)) → length old ≡ turns * workers
    → length new ≡ length old
    → EachChange (λ slot o n. IsRun turns workers jobs passwords slot (tells_of o) (stage_of n)
    (row_of n)) old new
    → (slot : ℕ) (job : Job) (password : List ℕ) (row : Row) (stage : State)
    → slot < turns * workers → place_at turns workers slot < length jobs
    → IsTried (slice_index_or jobs (place_at turns workers slot) job)
    (slice_index_or passwords (place_at turns workers slot) password) (slice_index_or
    (map row_of new) slot row) (slice_index_or (map stage_of new) slot stage)
tried_at old new tells_of stage_of row_of turns workers jobs passwords count same each slot job
    password row stage below there =
    let own = slice_index_or passwords (place_at turns workers slot) password in
    let within : slot < length old = omega arith in
    let x = an_element old slot within in
    let run = each slot x within in
    let rows : slice_index_or (map row_of new) slot row ≡ row_of
    (slice_index_or new slot x) = get_or-map row_of new slot x row (omega arith) in
    let stages : slice_index_or (map stage_of new) slot stage ≡ stage_of
    (slice_index_or new slot x) = get_or-map stage_of new slot x stage (omega arith) in
    subst (λ (r : Row). IsTried (slice_index_or jobs
    (place_at turns workers slot) job) own r (slice_index_or
    (map stage_of new) slot stage)) (sym rows)
    (subst (λ (t : State). IsTried (slice_index_or jobs
    (place_at turns workers slot) job) own (row_of (slice_index_or new slot x)) t)
    (sym stages)
    (run.tried job password there))

-- the attempt of a slot without a job is unused
unused_at : {X : Type 0} (old new : List X) (tells_of : X → List ℕ → Option Forecast) (stage_of : X
    → State) (row_of : X → Row)
    (turns workers : ℕ) (jobs : List Job) (passwords : List (List ℕ)) → length old ≡ turns * workers
    → length new ≡ length old
    → EachChange (λ slot o n. IsRun turns workers jobs passwords slot (tells_of o) (stage_of n)
    (row_of n)) old new
    → (slot : ℕ) (stage : State) → slot < length old → length jobs ≤ place_at turns workers slot
    → slice_index_or (map stage_of new) slot stage ≡ unused
unused_at old new tells_of stage_of row_of turns workers jobs passwords count same each slot stage
    within free =
    let x = an_element old slot within in
    get_or-map stage_of new slot x stage (omega arith) ∙ (each slot x within).others free

-- the use of their attempts by all jobs
pub are_tried : {X : Type 0} (old new : List X) (tells_of : X → List ℕ
    → Option Forecast) (stage_of : X → State) (row_of : X → Row)
    (turns workers : ℕ) (jobs : List Job) (passwords : List (List ℕ))
    (blank lines : List ReportLine) → 0 < workers → length jobs < turns * workers
    → map (λ (l : ReportLine). l.id) blank ≡ map (λ (j : Job). j.id) jobs
    → length old ≡ turns * workers → length new ≡ length old
    → EachChange (λ slot o n. IsRun turns workers jobs passwords slot (tells_of o) (stage_of n)
    (row_of n)) old new
    → Gathers turns workers blank (map row_of new) (length blank) lines
    → AreTriedWith turns workers jobs passwords lines (map stage_of new)
are_tried old new tells_of stage_of row_of turns workers jobs passwords blank lines some few names
    count same each gathers =
    let long : length blank ≡ length jobs = same_length jobs blank names in
    record {
      of_jobs = λ i job password line stage below.
          let back = place_back turns workers i some (omega arith) in
          let slot = slot_below turns workers i some (omega arith) in
          let there : place_at turns workers
          (slot_at turns workers i) < length jobs = rw back below in
          let is = tried_at old new tells_of stage_of row_of turns workers jobs passwords count
          same each (slot_at turns workers i) job password
          (slice_index_or lines i line).row stage slot there in
          rw (gathers.rows i line (slice_index_or lines i line).row (omega arith)) (rw back at is);
      others = λ slot stage below free.
          unused_at old new tells_of stage_of row_of turns workers jobs passwords count same each
          slot stage
          (let within : slot < length old = omega (arith, length-map new stage_of) in within) free;
    }

-- the result of a slot, moved along equal values
pub run_moved : {X : Type 0} (old here new there : X) (tells_of : X → List ℕ
    → Option Forecast) (stage_of : X → State) (row_of : X → Row)
    (turns workers : ℕ) (jobs : List Job) (passwords : List (List ℕ)) (slot : ℕ) → here ≡ old
    → there ≡ new
    → IsRun turns workers jobs passwords slot (tells_of here) (stage_of there) (row_of there)
    → IsRun turns workers jobs passwords slot (tells_of old) (stage_of new) (row_of new)
run_moved {X} old here new there tells_of stage_of row_of turns workers jobs passwords slot before
    after run =
    subst (λ (n : X). IsRun turns workers jobs passwords slot (tells_of old) (stage_of n)
    (row_of n)) after
    (subst (λ (o : X). IsRun turns workers jobs passwords slot (tells_of o) (stage_of there)
    (row_of there)) before run)

-- the elements written to all indexes of a list are its elements
pub written : {T : Type 0} (n : ℕ) (xs ys : List T) → n ≡ length xs → take n (xs ++ ys) ≡ xs
written n xs ys is = rw is (take_at xs ys (length xs) refl)

-- jobs that all have one password
pub one_password : (turns workers : ℕ) (jobs : List Job) (password : List ℕ)
    (passwords : List (List ℕ)) (lines : List ReportLine) (stages : List State)
    → passwords ≡ replicate (length jobs) password
    → AreTriedWith turns workers jobs passwords lines stages
    → AreTried turns workers jobs password lines stages
one_password turns workers jobs password passwords lines stages same tried = record {
  of_jobs = λ i job line stage below.
      let own : slice_index_or passwords i password ≡ password =
      rw same (get_or-replicate (length jobs) i password password below) in
      subst (λ (p : List ℕ). IsTried (slice_index_or jobs i job) p (slice_index_or lines i line).row
      (slice_index_or stages (slot_at turns workers i) stage)) own
      (tried.of_jobs i job password line stage below);
  others = tried.others;
}

pub one_password_in : {E : Type 0} (turns workers : ℕ) (jobs : List Job) (password : List ℕ)
    (passwords : List (List ℕ)) (stages : List State) (result : Result (List ReportLine) E)
    → passwords ≡ replicate (length jobs) password
    → IfOk result (λ lines. AreTriedWith turns workers jobs passwords lines stages)
    → IfOk result (λ lines. AreTried turns workers jobs password lines stages)
one_password_in turns workers jobs password passwords stages (Ok lines) same tried =
    one_password turns workers jobs password passwords lines stages same tried
one_password_in turns workers jobs password passwords stages (Err error) same tried = tt
