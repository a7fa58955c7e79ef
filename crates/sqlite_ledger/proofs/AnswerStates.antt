-- What an INSERT of an answer does to the answers that a crash leaves.
use Rattle.std.proofs.Common.{◌≡◌, inl, inr, ℕ, ℤ, [], ◌∷◌, append-nil, false, None, Ok, Err}
use Rattle.std.proofs.Common.{Result}
use Rattle.std.proofs.Common.{OnOk, IsTrue, sym, ap, subst, ◌∙◌, arith}
use Rattle.sqlite.specs.Tree.{Trees}
use Rattle.sqlite.specs.Command.TheVariants.{Insert}
use Rattle.sqlite.specs.declared.error.Error.{Error}
use Rattle.sqlite.specs.Effect.{Database}
use Rattle.sqlite.specs.Listing.{understood}
use Rattle.sqlite.specs.State.{State, HasCleanDisk, IsUnchanged, Survives, Executes, CommitsBy}
use Rattle.sqlite.specs.State.{Writes, text_of}
use Rattle.sqlite.proofs.Callers.{IsPlain, command_of, statement_of, runs_as}
use Rattle.sqlite_ledger.specs.AtRest.{IsAtRest}
use Rattle.sqlite_ledger.proofs.InsertStates.{IsSettled}
use Rattle.ledger_reports.specs.declared.answer.StateAnswer.{StateAnswer}
use Rattle.sqlite_ledger.specs.Answers.{answer_row, answer_rows, AddsAnswers, IsRecorded, IsSafe}
use Rattle.sqlite_ledger.specs.AnswersSchema.{answer_tree, answers_schema}
use Rattle.sqlite_ledger.proofs.AnswerLemmas.{answer_text, answer_source, answer_params}
use Rattle.sqlite_ledger.proofs.AnswerLemmas.{answer_is, answer_plain, answer_does, AddsAnswer}
use Rattle.sqlite_ledger.proofs.AnswerLemmas.{recorded, kept, added}

module _ (number : ℤ) (answer : StateAnswer) where
  -- An INSERT that is made adds the answer, and commits it.
  record IsMade (mid new : State) : Type 0 where
    adds : AddsAnswer mid.now new.now (answer_row number answer)
    is_open : IsTrue new.is_open
    committed : new.committed ≡ new.now

  made : (mid new : State) (count : ℕ) → mid.now.schema ≡ answers_schema
      → mid.in_transaction ≡ false
      → Executes answer_text (answer_params number answer) mid new (Ok count) → IsMade mid new
  made mid new count has auto h =
      let w : Writes mid new None (Insert 0 answer_source) (statement_of answer_text (understood
      answers_schema answer_text)) (answer_params number answer) count =
      runs_as answer_text (answer_params number answer) mid new answers_schema has (Insert 0
      answer_source) answer_is answer_plain count h in
      record {
        adds = answer_does number answer mid (statement_of answer_text (understood answers_schema
            answer_text)) new.now w.tally has w.changed;
        is_open = w.shown.is_open;
        committed = rw auto at w.shown.committed_is;
      }

  -- What an INSERT commits is what it adds to.
  commits_add : (s : State) (db : Trees) → s.now.schema ≡ answers_schema
      → CommitsBy answer_text (answer_params number answer) s db
      → (after : Database) × AddsAnswer s.now after (answer_row number answer) × (db ≡ after.trees)
  unfolding CommitsBy
  commits_add s db has commits =
      let c = commits.0 in
      let known = sym commits.1.is ∙ ap (λ sc. understood sc answer_text) has in
      let bare = subst IsPlain (sym known) answer_plain in
      let is : c.command ≡ Insert 0 answer_source = ap command_of known ∙ answer_is in
      let may = rw (bare.0, bare.1, append-nil (answer_params number answer), is) at commits.2 in
      elim may [
        | inl (inl never, same) ↦ absurd cc
        | inl (inr never, same) ↦ absurd (let e = never.2 in cc)
        | inr writes ↦ (
          writes.2,
          answer_does number answer s (text_of answer_text c) writes.2 writes.1 has writes.3,
          writes.5,
        )
      ]

  module _ (old mid new : State) (has : old.now.schema ≡ answers_schema) (rest : IsAtRest old) (same
      : IsUnchanged old mid) where
    mid_has : mid.now.schema ≡ answers_schema
    mid_has = ap (λ (d : Database). d.schema) same.0.now_is ∙ has

    is_made : (count : ℕ) → Executes answer_text (answer_params number answer) mid new (Ok count)
        → IsMade mid new
    is_made count h = made mid new count mid_has (same.0.mode ∙ rest.0) h

    pub safe : (r : Result ℕ Error) → Executes answer_text (answer_params number answer) mid new r
        → IsSettled new → OnOk r (IsSafe new.may_leave answer)
    safe (Ok count) h settled = λ db left.
        let it = is_made count h in
        let is : db ≡ new.now.trees = settled.settled it.is_open db left ∙ ap (λ (d : Database).
        d.trees) it.committed in
        subst (λ (d : Trees). IsRecorded d answer) (sym is) (recorded mid.now new.now number answer
        it.adds)
    safe (Err e) h settled = tt

    pub schema : (r : Result ℕ Error) → Executes answer_text (answer_params number answer) mid new r
        → OnOk r (new.now.schema ≡ answers_schema)
    schema (Ok count) h = (is_made count h).adds.schema
    schema (Err e) h = tt

    pub adds_one : (r : Result ℕ Error) → Executes answer_text (answer_params number answer) mid new
        r → OnOk r (AddsAnswers (answer_rows old) (answer ∷ []) (answer_rows new))
    adds_one (Ok count) h =
        subst (λ (d : Database). AddsAnswers (d.trees answer_tree) (answer ∷ []) (answer_rows new))
        same.0.now_is (added mid.now new.now number answer (is_made count h).adds)
    adds_one (Err e) h = tt

    -- an answer that every crash left before, every crash leaves after, even if the INSERT fails
    pub remains : IsSettled old → HasCleanDisk new → Survives old mid (λ _. ⊥) → Survives mid new
        (CommitsBy answer_text (answer_params number answer) mid) → (other : StateAnswer)
        → IsSafe old.may_leave other → IsSafe new.may_leave other
    remains start clean first second other all db left = elim (second.crash clean db left) [
      | inl was ↦ elim (first.crash (omega (arith, second.clean)) db was) [
        | inl before ↦ all db before
        | inr never ↦ absurd never
      ]
      | inr commits ↦
          let it = commits_add mid db mid_has commits in
          let start_is : mid.now.trees ≡ old.committed.trees = ap (λ (d : Database). d.trees)
          (same.0.now_is ∙ rest.1 same.0.was_open) in
          let left_at_start : old.may_leave mid.now.trees = subst old.may_leave (sym start_is)
          (start.stays same.0.was_open) in
          subst (λ (d : Trees). IsRecorded d other) (sym it.2) (kept mid.now it.0 number answer it.1
          other (all mid.now.trees left_at_start))
    ]
