-- The lines of a ledger with their answers, and what is printed of questions.
use Rattle.std.proofs.Common.{◌≡◌, ◌<◌, ◌++◌, ℕ, suc, List, [], ◌∷◌, map, length, take, arith}
use Rattle.std.proofs.Common.{slice_index_or, refl}
use Rattle.std.proofs.Math.Seq.{take-append_seam}
use Rattle.std.proofs.Common.{Result, Ok, Err, OnOk, IsOk}
use Rattle.std.proofs.lemmas.Bool.{false≢true}
use Rattle.ledger_reports.specs.Answers.{with_answer}
use Rattle.ledger_reports.specs.declared.answer.StateAnswer.{StateAnswer}
use Rattle.ledger_reports.specs.declared.line.LedgerLine.{LedgerLine}
use Rattle.head_end_cli.specs.Ledgered.{HaveAnswers}

-- lines that have their answers at each index
pub entered : (answers : List StateAnswer) (old new : List LedgerLine) → length new ≡ length old
    → ((i : ℕ) (line : LedgerLine) → i < length old → slice_index_or new i line
    ≡ with_answer answers (slice_index_or old i line))
    → new ≡ map (with_answer answers) old
entered answers [] [] same each = refl
entered answers [] (line ∷ lines) same each = absurd (omega arith)
entered answers (line ∷ lines) [] same each = absurd (omega arith)
entered answers (line ∷ lines) (new ∷ news) same each =
    let first : new ≡ with_answer answers line = each 0 line (omega arith) in
    let rest = entered answers lines news (omega arith)
    (λ i l below. each (suc i) l (omega arith)) in
    rw (first, rest) refl

-- no lines have their answers, which are none
pub no_lines : HaveAnswers []
no_lines = record { read = []; answers = []; are = refl }

-- a list that was written to the front of a longer one
pub written : {T : Type 0} (n : ℕ) (xs ys : List T) → n ≡ length xs → take n (xs ++ ys) ≡ xs
written n xs ys is = rw is (take-append_seam xs ys)

-- what holds if a result is Ok may be replaced by what follows from it
pub on_ok : {T F A B : Type 0} (result : Result T F) → (IsOk result → A → B) → OnOk result A
    → OnOk result B
on_ok (Ok value) follows holds = follows refl holds
on_ok (Err fault) follows holds = tt

-- what holds if a result is Ok, holds if it is
pub of_ok : {T F A : Type 0} (result : Result T F) → IsOk result → OnOk result A → A
of_ok (Ok value) ok holds = holds
of_ok (Err fault) ok holds = absurd (false≢true ok)
