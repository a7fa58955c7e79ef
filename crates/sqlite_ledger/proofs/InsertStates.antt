-- What an INSERT of one row does to a connection that is outside a transaction, and to what a crash
-- leaves.
use Rattle.std.proofs.Common.{◌≡◌, inl, inr, ℕ, List, append-nil, true, false, None, Some, Ok}
use Rattle.std.proofs.Common.{Err, refl}
use Rattle.std.proofs.Common.{Result, OnOk, IfErr, IsTrue, sym, ap, subst, ◌∙◌, arith, true≢false}
use Rattle.std.proofs.lemmas.Bool.{cases_Bool}
use Rattle.sqlite_trees.specs.declared.error.StoreError.{StoreError}
use Rattle.sqlite_trees.specs.declared.error.StoreError.TheVariants.{OutOfMemory, Io, Corrupt, Full}
use Rattle.sqlite_trees.specs.declared.error.StoreError.TheVariants.{Broken, Unstorable}
use Rattle.sqlite.specs.Order.{Row}
use Rattle.sqlite.specs.Tree.{Trees}
use Rattle.sqlite.specs.Source.{Source}
use Rattle.sqlite.specs.Command.{Command}
use Rattle.sqlite.specs.Command.TheVariants.{Insert}
use Rattle.sqlite.specs.Does.{Tally, Does}
use Rattle.sqlite.specs.declared.error.Error.{Error}
use Rattle.sqlite.specs.Effect.{Database}
use Rattle.sqlite.specs.Listing.{understood}
use Rattle.sqlite.specs.State.{State, HasCleanDisk, IsUnchanged, Survives, Executes, CommitsBy}
use Rattle.sqlite.specs.State.{Writes, IsNotRun, ExecutesIn, shows_rows, store_error, text_of}
use Rattle.sqlite.specs.State.{mode_of, IsNoStatement, IsMisplaced}
use Rattle.sqlite_ledger.specs.AtRest.{IsAtRest}
use Rattle.sqlite.proofs.Callers.{IsPlain, command_of, statement_of, runs_as}
use Rattle.sqlite_ledger.specs.Schema.{ledger_schema}
use Rattle.sqlite_ledger.specs.Taken.{is_taken}
use Rattle.sqlite_ledger.proofs.InsertLemmas.{AddsRow}
use Rattle.sqlite_ledger.proofs.TakenLemmas.{other_error}

same_error : {B E : Type 0} {a b : E} → ◌≡◌ {A = Result B E} (Err a) (Err b) → a ≡ b
same_error e = cc

-- No failure of the store is the error of a taken key.
never_taken : (cause : StoreError) → ¬ (is_taken (store_error cause) ≡ true)
never_taken OutOfMemory h = true≢false (sym h)
never_taken Io h = true≢false (sym h)
never_taken Corrupt h = true≢false (sym h)
never_taken Full h = true≢false (sym h)
never_taken Broken h = true≢false (sym h)
never_taken Unstorable h = true≢false (sym h)

failure_is_no_key : (e : Error) (cause : StoreError) → e ≡ store_error cause → ¬ (is_taken e ≡ true)
failure_is_no_key e cause is taken = never_taken cause (subst (λ x. is_taken x ≡ true) is taken)

-- A text that is no statement has another error.
no_statement_no_key : (s : State) (text : List ℕ) (params : Row) (e : Error) → IsNoStatement s text
    params e → is_taken e ≡ true → ⊥
no_statement_no_key s text params e (inl fault) taken = other_error e _ fault.2 refl taken
no_statement_no_key s text params e (inr (c, is, inl more)) taken =
    other_error e _ more.1 refl taken
no_statement_no_key s text params e (inr (c, is, inr (inl count))) taken =
    other_error e _ count.1 refl taken
no_statement_no_key s text params e (inr (c, is, inr (inr clock))) taken =
    other_error e _ clock.1 refl taken

-- The error of a text that is not run is not that of a taken key.
pub not_run_no_key : (text : List ℕ) (params : Row) (old new : State) (e : Error) → IsNotRun old new
    text params e → is_taken e ≡ true → ⊥
unfolding IsNotRun
not_run_no_key text params old new e h taken = elim h [
  | inl not_run ↦ no_statement_no_key old text params e not_run.0 taken
  | inr failed ↦ failure_is_no_key e failed.0 failed.1 taken
]

misplaced_no_key : (s : State) (command : Command) (e : Error) → IsMisplaced s command e
    → is_taken e ≡ true → ⊥
misplaced_no_key s command e (inl transaction) taken = other_error e _ transaction.0 refl taken
misplaced_no_key s command e (inr savepoint) taken = other_error e _ savepoint.0 refl taken

-- A text that is not run leaves the database as it was, or its error is not that of a taken key.
pub not_run_keeps : (text : List ℕ) (params : Row) (old new : State) (e : Error) → IsNotRun old new
    text params e → is_taken e ≡ true → new.now ≡ old.now
unfolding IsNotRun
not_run_keeps text params old new e h taken = elim h [
  | inl not_run ↦ not_run.1.0.now_is
  | inr failed
      ↦ absurd (failure_is_no_key e failed.0 failed.1 taken)
]

-- An INSERT whose key is taken changes nothing.
pub taken_is_unchanged : (text : List ℕ) (params : Row) (mid new : State) (e : Error) → Executes
    text params mid new (Err e) → is_taken e ≡ true → new.now ≡ mid.now
unfolding ExecutesIn
taken_is_unchanged text params mid new e h taken = elim h [
  | inl not_run ↦ not_run_keeps text params mid new e not_run taken
  | inr ran ↦ elim (cases_Bool (shows_rows false ran.0)) [
    | inl shows ↦ (rw shows at ran.2).1.0.now_is
    | inr runs ↦ elim (rw runs at ran.2) [
      | inl refused ↦ refused.1.0.now_is
      | inr failed ↦ absurd
          (failure_is_no_key e failed.0 failed.1 taken)
    ]
  ]
]

-- What is known of a store: while it is open, a crash leaves the last commit and nothing else.
pub record IsSettled (s : State) : Type 0 where
  pub settled : IsTrue s.is_open → (db : Trees) → s.may_leave db → db ≡ s.committed.trees
  pub stays : IsTrue s.is_open → s.may_leave s.committed.trees

-- A text that inserts one row into a table of the ledger.
pub record IsInsert (text : List ℕ) (params : Row) (at : ℕ) (source : Source) (tree : ℕ) (row : Row)
    : Type 1 where
  pub is : command_of (understood ledger_schema text) ≡ Insert at source
  pub plain : IsPlain (understood ledger_schema text)
  pub does : (s : State) (part : List ℕ) (after : Database) (tally : Tally) → s.now.schema ≡
      ledger_schema
      → Does s.step_limit (mode_of s) params s.now part None (Insert at source) (Ok (tally, after))
      → AddsRow tree s.now after row

-- An INSERT that is made adds the row, and commits it.
pub record IsMade (tree : ℕ) (row : Row) (mid new : State) : Type 0 where
  pub adds : AddsRow tree mid.now new.now row
  pub is_open : IsTrue new.is_open
  pub committed : new.committed ≡ new.now

module _ (text : List ℕ) (params : Row) (at : ℕ) (source : Source) (tree : ℕ) (row : Row) (insert :
    IsInsert text params at source tree row) where
  made : (mid new : State) (count : ℕ) → mid.now.schema ≡ ledger_schema → mid.in_transaction ≡ false
      → Executes text params mid new (Ok count) → IsMade tree row mid new
  made mid new count has auto h =
      let w : Writes mid new None (Insert at source) (statement_of text (understood ledger_schema
      text)) params count =
      runs_as text params mid new ledger_schema has (Insert at source) insert.is insert.plain count
      h in
      record {
        adds = insert.does mid (statement_of text (understood ledger_schema text)) new.now w.tally
            has w.changed;
        is_open = w.shown.is_open;
        committed = rw auto at w.shown.committed_is;
      }

  -- An INSERT whose key is taken was refused by the database.
  pub taken_does : (mid new : State) (e : Error) → mid.now.schema ≡ ledger_schema
      → Executes text params mid new (Err e) → is_taken e ≡ true
      → (part : List ℕ) × Does mid.step_limit (mode_of mid) params mid.now part None
      (Insert at source) (Err (Some e))
  unfolding ExecutesIn
  taken_does mid new e has h taken = elim h [
    | inl not_run ↦ absurd (not_run_no_key text params mid new e not_run taken)
    | inr ran ↦ elim (cases_Bool (shows_rows false ran.0)) [
      | inl shows ↦ absurd (other_error e _ (same_error (rw shows at ran.2).0) refl taken)
      | inr runs ↦ elim (rw runs at ran.2) [
        | inl refused ↦ elim refused.0 [
          | inl misplaced ↦ absurd (misplaced_no_key mid _ e misplaced taken)
          | inr change ↦
              let c = ran.0 in
              let known = sym ran.1.is ∙ ap (λ sc. understood sc text) has in
              let bare = subst IsPlain (sym known) insert.plain in
              let is : c.command ≡ Insert at source = ap command_of known ∙ insert.is in
              (text_of text c, rw (bare.0, bare.1, append-nil params, is) at change.1)
        ]
        | inr failed ↦ absurd (failure_is_no_key e failed.0 failed.1 taken)
      ]
    ]
  ]

  -- What an INSERT commits is what it adds to.
  commits_add : (s : State) (db : Trees) → s.now.schema ≡ ledger_schema → CommitsBy text params s db
      → (after : Database) × AddsRow tree s.now after row × (db ≡ after.trees)
  unfolding CommitsBy
  commits_add s db has commits =
      let c = commits.0 in
      let known = sym commits.1.is ∙ ap (λ sc. understood sc text) has in
      let bare = subst IsPlain (sym known) insert.plain in
      let is : c.command ≡ Insert at source = ap command_of known ∙ insert.is in
      let may = rw (bare.0, bare.1, append-nil params, is) at commits.2 in
      elim may [
        | inl (inl never, same) ↦ absurd cc
        | inl (inr never, same) ↦ absurd (let e = never.2 in cc)
        | inr writes ↦ (
          writes.2,
          insert.does s (text_of text c) writes.2 writes.1 has writes.3,
          writes.5,
        )
      ]

  module _ (old mid new : State) (has : old.now.schema ≡ ledger_schema) (rest : IsAtRest old) (same
      : IsUnchanged old mid) where
    pub mid_has : mid.now.schema ≡ ledger_schema
    mid_has = ap (λ (d : Database). d.schema) same.0.now_is ∙ has

    mid_auto : mid.in_transaction ≡ false
    mid_auto = same.0.mode ∙ rest.0

    -- what the connection sees is what a crash leaves at the start
    pub start_is : mid.now.trees ≡ old.committed.trees
    start_is = ap (λ (d : Database). d.trees) (same.0.now_is ∙ rest.1 same.0.was_open)

    pub start_left : IsSettled old → old.may_leave mid.now.trees
    start_left settled = subst old.may_leave (sym start_is) (settled.stays same.0.was_open)

    is_made : (count : ℕ) → Executes text params mid new (Ok count) → IsMade tree row mid new
    is_made count h = made mid new count mid_has mid_auto h

    -- after an INSERT that is made, a crash leaves what the connection sees
    pub left_is : (count : ℕ) (h : Executes text params mid new (Ok count)) → IsSettled new → (db :
        Trees) → new.may_leave db → db ≡ new.now.trees
    left_is count h settled db left = let it = is_made count h in settled.settled it.is_open db left
        ∙ ap (λ (d : Database). d.trees) it.committed

    pub adds : (count : ℕ) → Executes text params mid new (Ok count) → AddsRow tree mid.now new.now
        row
    adds count h = (is_made count h).adds

    pub schema : (r : Result ℕ Error) → Executes text params mid new r → OnOk r (new.now.schema ≡
        ledger_schema)
    schema (Ok count) h = (is_made count h).adds.schema
    schema (Err e) h = tt

    -- after an INSERT whose key is taken, too
    pub taken : (r : Result ℕ Error) → Executes text params mid new r → IfErr r (λ e. IsTrue
        (is_taken e) → new.now.schema ≡ ledger_schema)
    taken (Ok count) h = tt
    taken (Err e) h = λ is. ap (λ (d : Database). d.schema) (taken_is_unchanged text params mid new
        e h is) ∙ mid_has

    -- What every crash left before, and what the row does not take away, every crash leaves after,
    -- even if the INSERT fails.
    pub kept : IsSettled old → HasCleanDisk new → Survives old mid (λ _. ⊥) → Survives mid new
        (CommitsBy text params mid) → (P : Trees → Type 0)
        → ((db after : Database) → AddsRow tree db after row → P db.trees → P after.trees) → ((db :
        Trees) → old.may_leave db → P db) → (db : Trees) → new.may_leave db → P db
    kept start clean first second P keeps all db left = elim (second.crash clean db left) [
      | inl was ↦ elim (first.crash (omega (arith, second.clean)) db was) [
        | inl before ↦ all db
            before
        | inr never ↦ absurd never
      ]
      | inr commits ↦
          let it = commits_add mid db mid_has commits in
          subst P (sym it.2) (keeps mid.now it.0 it.1 (all mid.now.trees (start_left start)))
    ]
