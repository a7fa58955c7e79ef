-- What the statements of a group of marks and outcomes do.
use Rattle.std.proofs.Common.{◌≡◌, ◌⊎◌, inl, inr, ℕ, ℤ, pos, Bool, List, [], ◌∷◌, ◌++◌, codes, true, false, None, Ok, Err, Result, OnOk, IsTrue, refl, sym, ap, subst, ◌∙◌, true≢false}
use Rattle.std.specs.Prelude.{◌==◌, if◌then◌else◌}
use Rattle.std.proofs.lemmas.Bool.{eqb-true}
use Rattle.sqlite.specs.declared.types.Value.TheVariants.{Null, Int}
use Rattle.sqlite.specs.Order.{Row}
use Rattle.sqlite.specs.Tree.{Trees}
use Rattle.sqlite.specs.Command.TheVariants.{Insert, Begin, Commit}
use Rattle.sqlite_tied.specs.Compute.{everything}
use Rattle.sqlite.specs.Listing.{understood}
use Rattle.sqlite.specs.declared.error.Error.{Error}
use Rattle.sqlite.specs.Effect.{Database}
use Rattle.sqlite.specs.Source.{Source}
use Rattle.sqlite.specs.State.{State, HasCleanDisk, Survives, Executes, CommitsBy, Writes}
use Rattle.sqlite.proofs.Callers.{IsPlain, command_of, statement_of, runs_as}
use Rattle.sqlite_rules.specs.Lists.{Has}
use Rattle.client_core.specs.declared.job.Outcome.{Outcome}
use Rattle.campaign_ledger.specs.declared.book.PlaceOutcome.{PlaceOutcome}
use Rattle.campaign_ledger.specs.Groups.{has, has_outcome}
use Rattle.sqlite_ledger.specs.AtRest.{IsAtRest}
use Rattle.sqlite_ledger.specs.Groups.{mark_row, AreTimed, IsInside, Begins, AddsGroup}
use Rattle.sqlite_ledger.specs.Groups.{LeavesNoMore, CommitsAll, LeavesOrCommits}
use Rattle.sqlite_ledger.specs.Marks.{IsBegun, IsMarked}
use Rattle.sqlite_ledger.specs.Outcomes.{IsRecorded, IsSafe, outcome_row}
use Rattle.sqlite_ledger.specs.Schema.{ledger_schema, begun_tree, outcome_tree}
use Rattle.sqlite_ledger.proofs.InsertLemmas.{AddsRow, cast_int, row_added, rows_kept}
use Rattle.sqlite_ledger.proofs.InsertStates.{IsSettled}
use Rattle.sqlite_ledger.proofs.MarkLemmas.{begun_text, begun_source, begun_is, begun_plain}
use Rattle.sqlite_ledger.proofs.MarkLemmas.{begun_does, not_before, outcomes_same, has_begun}
use Rattle.sqlite_ledger.proofs.MarkLemmas.{begun_remains}
use Rattle.sqlite_ledger.proofs.MarkLemmas as mark
use Rattle.sqlite_ledger.proofs.OutcomeLemmas.{outcome_text, outcome_source, outcome_is}
use Rattle.sqlite_ledger.proofs.OutcomeLemmas.{outcome_plain, outcome_params, outcome_does}
use Rattle.sqlite_ledger.proofs.OutcomeLemmas.{marks_same, recorded_remains}

abbrev pub begin_text : List ℕ
begin_text = codes "BEGIN"

abbrev pub commit_text : List ℕ
commit_text = codes "COMMIT"

begin_is : command_of (understood ledger_schema begin_text) ≡ Begin
unfolding understood everything
begin_is = refl

begin_plain : IsPlain (understood ledger_schema begin_text)
unfolding understood everything
begin_plain = (refl, refl)

commit_is : command_of (understood ledger_schema commit_text) ≡ Commit
unfolding understood everything
commit_is = refl

commit_plain : IsPlain (understood ledger_schema commit_text)
unfolding understood everything
commit_plain = (refl, refl)

-- the values of a mark
abbrev pub mark_params : ℤ → ℕ → Row
mark_params place second = Int place ∷ Int (pos second) ∷ []

-- ---- what is committed

begin_commits : (s : State) (db : Trees) → s.now.schema ≡ ledger_schema
    → CommitsBy begin_text [] s db → ⊥
unfolding CommitsBy
begin_commits s db has_schema commits =
    let c = commits.0 in
    let known = sym commits.1.is ∙ ap (λ sc. understood sc begin_text) has_schema in
    let bare = subst IsPlain (sym known) begin_plain in
    let is : c.command ≡ Begin = ap command_of known ∙ begin_is in
    let may = rw (bare.0, bare.1, is) at commits.2 in
    elim may [
      | inl (inl never, same) ↦ absurd cc
      | inl (inr never, same) ↦ absurd (let e = never.2 in cc)
      | inr writes ↦ absurd (let e = writes.3 in cc)
    ]

-- an INSERT inside a transaction commits nothing
insert_commits : (text : List ℕ) (params : Row) (at : ℕ) (source : Source)
    → command_of (understood ledger_schema text) ≡ Insert at source
    → IsPlain (understood ledger_schema text)
    → (s : State) (db : Trees) → IsInside s → CommitsBy text params s db → ⊥
unfolding CommitsBy
insert_commits text params at source insert plain s db inside commits =
    let c = commits.0 in
    let known = sym commits.1.is ∙ ap (λ sc. understood sc text) inside.schema in
    let bare = subst IsPlain (sym known) plain in
    let is : c.command ≡ Insert at source = ap command_of known ∙ insert in
    let may = rw (bare.0, bare.1, is) at commits.2 in
    elim may [
      | inl (inl never, same) ↦ absurd cc
      | inl (inr never, same) ↦ absurd (let e = never.2 in cc)
      | inr writes ↦ absurd (true≢false (sym inside.mode ∙ writes.0))
    ]

commit_commits : (s : State) (db : Trees) → IsInside s → CommitsBy commit_text [] s db
    → db ≡ s.now.trees
unfolding CommitsBy
commit_commits s db inside commits =
    let c = commits.0 in
    let known = sym commits.1.is ∙ ap (λ sc. understood sc commit_text) inside.schema in
    let bare = subst IsPlain (sym known) commit_plain in
    let is : c.command ≡ Commit = ap command_of known ∙ commit_is in
    let may = rw (bare.0, bare.1, is) at commits.2 in
    elim may [
      | inl (it, same) ↦ same
      | inr writes ↦ absurd (true≢false (sym inside.mode ∙ writes.0))
    ]

pub no_more_begin : (old new : State) → old.now.schema ≡ ledger_schema → HasCleanDisk new
    → Survives old new (CommitsBy begin_text [] old) → LeavesNoMore old new
no_more_begin old new has_schema clean survives = λ db left.
    elim (survives.crash clean db left) [
      | inl was ↦ was
      | inr commits ↦ absurd (begin_commits old db has_schema commits)
    ]

pub no_more_mark : (old new : State) (place : ℤ) (second : ℕ) → IsInside old → HasCleanDisk new
    → Survives old new (CommitsBy begun_text (mark_params place second) old)
    → LeavesNoMore old new
no_more_mark old new place second inside clean survives = λ db left.
    elim (survives.crash clean db left) [
      | inl was ↦ was
      | inr commits ↦ absurd (insert_commits begun_text (mark_params place second) 0 begun_source
          begun_is begun_plain old db inside commits)
    ]

pub no_more_outcome : (old new : State) (place : ℤ) (outcome : Outcome) (second : ℕ)
    → IsInside old → HasCleanDisk new
    → Survives old new
    (CommitsBy outcome_text (outcome_params place outcome (Int (pos second))) old)
    → LeavesNoMore old new
no_more_outcome old new place outcome second inside clean survives = λ db left.
    elim (survives.crash clean db left) [
      | inl was ↦ was
      | inr commits ↦ absurd (insert_commits outcome_text
          (outcome_params place outcome (Int (pos second))) 1 outcome_source outcome_is
          outcome_plain old db inside commits)
    ]

pub leaves_commit : (old new : State) → IsInside old → HasCleanDisk new
    → Survives old new (CommitsBy commit_text [] old) → LeavesOrCommits old new
leaves_commit old new inside clean survives = λ db left.
    elim (survives.crash clean db left) [
      | inl was ↦ inl was
      | inr commits ↦ inr (commit_commits old db inside commits)
    ]

-- ---- what the statements do

pub begins : (old new : State) (r : Result ℕ Error) → old.now.schema ≡ ledger_schema
    → Executes begin_text [] old new r → OnOk r (Begins old new)
begins old new (Err e) has_schema h = tt
begins old new (Ok count) has_schema h =
    let ran = runs_as begin_text [] old new ledger_schema has_schema Begin begin_is begin_plain
    count h in
    record {
      was_open = ran.1.was_open;
      inside = record {
        schema = ap (λ (d : Database). d.schema) ran.1.now_is ∙ has_schema;
        mode = ran.1.mode;
        is_open = ran.1.is_open;
      };
      now_is = ran.1.now_is;
    }

-- the one place of a group
one_place : (place other : ℕ) → has other (place ∷ []) ≡ true → other ≡ place
one_place place other is = of_test (other == place) refl is
  where
    of_test : (here : Bool) → (other == place) ≡ here → (if here then true else false) ≡ true
        → other ≡ place
    of_test true same is_true = eqb-true other place same
    of_test false apart never = absurd cc

pub adds_mark : (old new : State) (place second : ℕ) (r : Result ℕ Error) → IsInside old
    → Executes begun_text (mark_params (pos place) second) old new r
    → OnOk r (AddsGroup old new second (place ∷ []) [])
adds_mark old new place second (Err e) inside h = tt
adds_mark old new place second (Ok count) inside h =
    let params = mark_params (pos place) second in
    let part = statement_of begun_text (understood ledger_schema begun_text) in
    let w : Writes old new None (Insert 0 begun_source) part params count =
    runs_as begun_text params old new ledger_schema inside.schema (Insert 0 begun_source) begun_is
    begun_plain count h in
    let row = mark.mark_row (pos place) (Int (pos second)) in
    let adds : AddsRow begun_tree old.now new.now row =
    begun_does (pos place) (Int (pos second)) old part new.now w.tally inside.schema w.changed in
    let is : row ≡ mark_row (pos place) second =
    ap (λ v. Int (pos place) ∷ Null ∷ v ∷ []) (cast_int (pos second)) in
    record {
      inside = record {
        schema = adds.schema;
        mode = w.shown.mode ∙ inside.mode;
        is_open = w.shown.is_open;
      };
      fresh = λ other is_one was. not_before old.now new.now (pos place) (Int (pos second)) adds
          (subst (λ (n : ℕ). IsBegun old.now.trees (pos n)) (one_place place other is_one) was);
      marked = λ other is_one.
          subst (λ (n : ℕ). Has (new.now.trees begun_tree) (mark_row (pos n) second))
          (sym (one_place place other is_one))
          (subst (Has (new.now.trees begun_tree)) is
          (row_added begun_tree old.now new.now row adds));
      recorded = λ other outcome never. absurd never;
      marks_kept = rows_kept begun_tree old.now new.now row adds;
      outcomes_kept = λ other had. subst (λ (rows : List Row). Has rows other)
          (sym (outcomes_same old.now new.now (pos place) (Int (pos second)) adds)) had;
    }

pub adds_outcome : (old new : State) (place : ℕ) (outcome : Outcome) (second : ℕ)
    (r : Result ℕ Error) → IsInside old
    → Executes outcome_text (outcome_params (pos place) outcome (Int (pos second))) old new r
    → OnOk r (AddsGroup old new second [] (record { place = place; outcome = outcome } ∷ []))
adds_outcome old new place outcome second (Err e) inside h = tt
adds_outcome old new place outcome second (Ok count) inside h =
    let params = outcome_params (pos place) outcome (Int (pos second)) in
    let part = statement_of outcome_text (understood ledger_schema outcome_text) in
    let w : Writes old new None (Insert 1 outcome_source) part params count =
    runs_as outcome_text params old new ledger_schema inside.schema (Insert 1 outcome_source)
    outcome_is outcome_plain count h in
    let row = outcome_row (pos place) outcome (Int (pos second)) in
    let adds : AddsRow outcome_tree old.now new.now row =
    outcome_does (pos place) outcome (Int (pos second)) old part new.now w.tally inside.schema
    w.changed in
    record {
      inside = record {
        schema = adds.schema;
        mode = w.shown.mode ∙ inside.mode;
        is_open = w.shown.is_open;
      };
      fresh = λ other never was. absurd cc;
      marked = λ other never. absurd cc;
      recorded = λ other other_outcome is_one. elim is_one [
        | inl same ↦
            subst (λ (o : Outcome). Has (new.now.trees outcome_tree)
            (outcome_row (pos other) o (Int (pos second)))) same.1
            (subst (λ (n : ℕ). Has (new.now.trees outcome_tree)
            (outcome_row (pos n) outcome (Int (pos second)))) same.0
            (row_added outcome_tree old.now new.now row adds))
        | inr never ↦ absurd never
      ];
      marks_kept = λ other had. subst (λ (rows : List Row). Has rows other)
          (sym (marks_same old.now new.now row adds)) had;
      outcomes_kept = rows_kept outcome_tree old.now new.now row adds;
    }

pub commits : (old new : State) (r : Result ℕ Error) → IsInside old
    → Executes commit_text [] old new r → OnOk r (CommitsAll old new)
commits old new (Err e) inside h = tt
commits old new (Ok count) inside h =
    let ran = runs_as commit_text [] old new ledger_schema inside.schema Commit commit_is
    commit_plain count h in
    record {
      is_open = ran.1.is_open;
      committed = ran.1.committed_is;
      now_is = ran.1.now_is;
    }

-- ---- one after the other

has_either : (place : ℕ) (xs ys : List ℕ) → has place (xs ++ ys) ≡ true
    → (has place xs ≡ true) ⊎ (has place ys ≡ true)
has_either place [] ys is = inr is
has_either place (x ∷ xs) ys is =
    either (place == x) (has place xs) (has place (xs ++ ys)) (has place ys)
    (has_either place xs ys) is
  where
    either : (here first both second : Bool)
        → (both ≡ true → (first ≡ true) ⊎ (second ≡ true))
        → (if here then true else both) ≡ true
        → ((if here then true else first) ≡ true) ⊎ (second ≡ true)
    either true first both second on it = inl refl
    either false first both second on it = on it

outcome_either : (place : ℕ) (outcome : Outcome) (xs ys : List PlaceOutcome)
    → has_outcome place outcome (xs ++ ys)
    → has_outcome place outcome xs ⊎ has_outcome place outcome ys
outcome_either place outcome [] ys is = inr is
outcome_either place outcome (x ∷ xs) ys (inl same) = inl (inl same)
outcome_either place outcome (x ∷ xs) ys (inr later) =
    elim (outcome_either place outcome xs ys later) [
      | inl first ↦ inl (inr first)
      | inr second ↦ inr second
    ]

pub adds_none : (old : State) (second : ℕ) → IsInside old → AddsGroup old old second [] []
adds_none old second inside = record {
  inside = inside;
  fresh = λ place is was. absurd cc;
  marked = λ place is. absurd cc;
  recorded = λ place outcome is. absurd is;
  marks_kept = λ row had. had;
  outcomes_kept = λ row had. had;
}

pub adds_more : (old mid new : State) (second : ℕ) (marks more : List ℕ)
    (outcomes others : List PlaceOutcome) → AddsGroup old mid second marks outcomes
    → AddsGroup mid new second more others
    → AddsGroup old new second (marks ++ more) (outcomes ++ others)
adds_more old mid new second marks more outcomes others a b = record {
  inside = b.inside;
  fresh = λ place is was. elim (has_either place marks more is) [
    | inl early ↦ a.fresh place early was
    | inr late ↦ b.fresh place late
        (begun_remains old.now.trees mid.now.trees a.marks_kept (pos place) was)
  ];
  marked = λ place is. elim (has_either place marks more is) [
    | inl early ↦ b.marks_kept (mark_row (pos place) second) (a.marked place early)
    | inr late ↦ b.marked place late
  ];
  recorded = λ place outcome is. elim (outcome_either place outcome outcomes others is) [
    | inl early ↦ b.outcomes_kept (outcome_row (pos place) outcome (Int (pos second)))
        (a.recorded place outcome early)
    | inr late ↦ b.recorded place outcome late
  ];
  marks_kept = λ row had. b.marks_kept row (a.marks_kept row had);
  outcomes_kept = λ row had. b.outcomes_kept row (a.outcomes_kept row had);
}

pub twice : (old mid new : State) → LeavesNoMore old mid → LeavesNoMore mid new
    → LeavesNoMore old new
twice old mid new first second = λ db left. first db (second db left)

-- some rows of a group were added, if the disk is still clean
pub record AddsSome (old new : State) (second : ℕ) (marks : List ℕ)
    (outcomes : List PlaceOutcome) : Type 0 where
  pub clean : HasCleanDisk new → HasCleanDisk old
  pub added : HasCleanDisk new → IsInside old → AddsGroup old new second marks outcomes
  pub crash : HasCleanDisk new → IsInside old → LeavesNoMore old new

pub some_none : (old : State) (second : ℕ) → AddsSome old old second [] []
some_none old second = record {
  clean = λ clean. clean;
  added = λ clean inside. adds_none old second inside;
  crash = λ clean inside db left. left;
}

pub crash_more : (old mid new : State) (second : ℕ) (marks : List ℕ)
    (outcomes : List PlaceOutcome) → AddsSome old mid second marks outcomes
    → (HasCleanDisk new → HasCleanDisk mid)
    → (HasCleanDisk new → IsInside mid → LeavesNoMore mid new)
    → HasCleanDisk new → IsInside old → LeavesNoMore old new
crash_more old mid new second marks outcomes a clean crash now inside =
    twice old mid new (a.crash (clean now) inside)
    (crash now (a.added (clean now) inside).inside)

pub some_more : (old mid new : State) (second : ℕ) (marks more : List ℕ)
    (outcomes others : List PlaceOutcome) → AddsSome old mid second marks outcomes
    → (HasCleanDisk new → HasCleanDisk mid)
    → (HasCleanDisk new → IsInside mid → AddsGroup mid new second more others)
    → (HasCleanDisk new → IsInside mid → LeavesNoMore mid new)
    → AddsSome old new second (marks ++ more) (outcomes ++ others)
some_more old mid new second marks more outcomes others a clean added crash = record {
  clean = λ now. a.clean (clean now);
  added = λ now inside.
      let early = a.added (clean now) inside in
      adds_more old mid new second marks more outcomes others early (added now early.inside);
  crash = crash_more old mid new second marks outcomes a clean crash;
}

-- ---- the whole group

pub from_start : (old begun within : State) (second : ℕ) (marks : List ℕ)
    (outcomes : List PlaceOutcome) → Begins old begun
    → AddsGroup begun within second marks outcomes → AddsGroup old within second marks outcomes
from_start old begun within second marks outcomes b a = record {
  inside = a.inside;
  fresh = λ place is was. a.fresh place is
      (subst (λ (d : Database). IsBegun d.trees (pos place)) (sym b.now_is) was);
  marked = a.marked;
  recorded = a.recorded;
  marks_kept = λ row had. a.marks_kept row
      (subst (λ (d : Database). Has (d.trees begun_tree) row) (sym b.now_is) had);
  outcomes_kept = λ row had. a.outcomes_kept row
      (subst (λ (d : Database). Has (d.trees outcome_tree) row) (sym b.now_is) had);
}

module _ (old : State) (rest : IsAtRest old) (settled : IsSettled old)
    (is_open : IsTrue old.is_open) where
  -- what the connection saw at first is what a crash left
  start_left : old.may_leave old.now.trees
  start_left = subst old.may_leave
      (sym (ap (λ (d : Database). d.trees) (rest.1 is_open))) (settled.stays is_open)

  module _ (within : State) (second : ℕ) (marks : List ℕ) (outcomes : List PlaceOutcome)
      (adds : AddsGroup old within second marks outcomes) where
    pub group_fresh : (place : ℕ) → has place marks ≡ true → ¬ IsMarked old.may_leave (pos place)
    group_fresh place is was = adds.fresh place is (was old.now.trees start_left)

    -- what all trees have that a crash may leave before, and what the group keeps, they have after
    all_kept : (new : State) (P : Trees → Type 0) → (P old.now.trees → P within.now.trees)
        → LeavesNoMore old within → LeavesOrCommits within new
        → ((db : Trees) → old.may_leave db → P db) → (db : Trees) → new.may_leave db → P db
    all_kept new P keeps no_more leaves was db left = elim (leaves db left) [
      | inl before ↦ was db (no_more db before)
      | inr all ↦ subst P (sym all) (keeps (was old.now.trees start_left))
    ]

    pub marks_remain : (new : State) → LeavesNoMore old within → LeavesOrCommits within new
        → (other : ℤ) → IsMarked old.may_leave other → IsMarked new.may_leave other
    marks_remain new no_more leaves other =
        all_kept new (λ db. IsBegun db other)
        (begun_remains old.now.trees within.now.trees adds.marks_kept other) no_more leaves

    pub outcomes_remain : (new : State) → LeavesNoMore old within → LeavesOrCommits within new
        → (other : ℤ) (held : Outcome) → IsSafe old.may_leave other held
        → IsSafe new.may_leave other held
    outcomes_remain new no_more leaves other held =
        all_kept new (λ db. IsRecorded db other held)
        (recorded_remains old.now.trees within.now.trees adds.outcomes_kept other held) no_more
        leaves

module _ (start within new : State) (second : ℕ) (marks : List ℕ)
    (outcomes : List PlaceOutcome) (adds : AddsGroup start within second marks outcomes)
    (all : CommitsAll within new) (settled : IsSettled new) where
  -- a crash leaves what the connection saw before the COMMIT
  left_is : (db : Trees) → new.may_leave db → db ≡ within.now.trees
  left_is db left = settled.settled all.is_open db left
      ∙ ap (λ (d : Database). d.trees) all.committed

  pub group_timed : (Gave : ℕ → Type 0) → Gave second
      → AreTimed Gave new.may_leave marks outcomes
  group_timed Gave gave = record {
    second = second;
    gave = gave;
    marks_at = λ place is db left.
        subst (λ (t : Trees). Has (t begun_tree) (mark_row (pos place) second))
        (sym (left_is db left)) (adds.marked place is);
    outcomes_at = λ place outcome is db left.
        subst (λ (t : Trees). Has (t outcome_tree)
        (outcome_row (pos place) outcome (Int (pos second))))
        (sym (left_is db left)) (adds.recorded place outcome is);
  }

  pub group_durable : (place : ℕ) → has place marks ≡ true → IsMarked new.may_leave (pos place)
  group_durable place is db left =
      subst (λ (t : Trees). IsBegun t (pos place)) (sym (left_is db left))
      (has_begun within.now.trees (pos place) (Int (pos second)) (adds.marked place is))

  pub group_recorded : (place : ℕ) (outcome : Outcome) → has_outcome place outcome outcomes
      → IsSafe new.may_leave (pos place) outcome
  group_recorded place outcome is db left =
      subst (λ (t : Trees). IsRecorded t (pos place) outcome) (sym (left_is db left))
      (Int (pos second), adds.recorded place outcome is)
