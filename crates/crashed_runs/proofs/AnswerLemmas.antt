-- A front of a run with as many lines as another has all its calls that may change the meter.
use Rattle.std.proofs.Common.{◌≡◌, ◌⊎◌, ℕ, ◌<◌, ◌≤◌, Bool, true, false, List, [], ◌∷◌, ◌++◌, length}
use Rattle.std.proofs.Common.{Ok, refl, sym, ap, ◌∙◌, arith, inl, inr, length-append, le_refl}
use Rattle.std.proofs.lemmas.List.{append-nil}
use Rattle.std.specs.Prelude.{not, if◌then◌else◌}
use Rattle.crashed_runs.specs.Answers.{AnswerSessions, ContinuesAnswers, HasAnsweredLines}
use Rattle.crashed_runs.specs.Answers.{changing_calls}
use Rattle.crashed_runs.specs.Fronts.{run_events}
use Rattle.crashed_runs.proofs.FrontLemmas.{front_continues}
use Rattle.durable_lines.specs.Lines.{lines_in, IsText}
use Rattle.journal_files.specs.Journals.{Continues, changing}
use Rattle.journal_files.specs.Renewals.{IsRenewedAs}
use Rattle.meter_journal.specs.Saving.{IsSavedFrom}
use Rattle.meter_journal.proofs.SavingLemmas.{lines_append}
use Rattle.meter_server.specs.JournaledSessions.{AreAnswered}
use Rattle.relay_events.specs.Kinds.{is_read}
use Rattle.relay_events.specs.declared.event.Event.{Event}
use Rattle.relay_events.specs.declared.reply.Reply.{Reply}
use Rattle.relay_recorder.specs.Recording.{Recording}
use Rattle.relay_recorder.specs.declared.trace.Trace.{Trace}
use Rattle.shared_meter.specs.Calls.{Calls}
use Rattle.shared_meter.specs.Pending.{lines_of_calls}
use Rattle.text_lines.specs.Words.{line_of}
use Rattle.trace_lines.specs.Writing.{event_row}
use Rattle.trace_player.specs.Journals.{IsJournal}
use Rattle.trace_player.specs.Resuming.{world_of}
use Rattle.trace_player.specs.Traces.{trace_of}
use Rattle.trace_player.specs.Written.{AreTraced}
use Rattle.turn_lock.proofs.Lists.{calls_by-append}
use Rattle.turn_lock.specs.History.{StartsWith, calls_by, is_same_number}
use Rattle.turn_lock.specs.declared.turned.Entry.{Entry}

abbrev Call : Type 0
Call = Entry Event Reply

-- the calls of one port that may change the meter
abbrev changes_by : List ℕ → Calls → Calls
changes_by number calls = changing_calls (calls_by number calls)

-- one more call, or not, before both
with_first : (has : Bool) (call : Call) (all front rest : Calls) → all ≡ front ++ rest
    → (if has then call ∷ all else all) ≡ (if has then call ∷ front else front) ++ rest
with_first true call all front rest same = ap (λ (calls : Calls). call ∷ calls) same
with_first false call all front rest same = same

pub changing_append : (front rest : Calls)
    → changing_calls (front ++ rest) ≡ changing_calls front ++ changing_calls rest
changing_append [] rest = refl
changing_append (call ∷ front) rest =
    with_first (not (is_read call.event)) call (changing_calls (front ++ rest))
    (changing_calls front) (changing_calls rest) (changing_append front rest)

changes_append : (number : List ℕ) (front rest : Calls)
    → changes_by number (front ++ rest) ≡ changes_by number front ++ changes_by number rest
changes_append number front rest = ap changing_calls (calls_by-append number front rest)
    ∙ changing_append (calls_by number front) (calls_by number rest)

-- a call without a line does not change the meter
no_change : (read mine : Bool) (call : Call) (line : List ℕ) (lines : List (List ℕ)) (own : Calls)
    → is_read call.event ≡ read → length ((if read then [] else line ∷ []) ++ lines) ≡ 0
    → (length lines ≡ 0 → changing_calls own ≡ [])
    → changing_calls (if mine then call ∷ own else own) ≡ []
no_change true true call line lines own is none later =
    ap (λ (r : Bool). if not r then call ∷ changing_calls own else changing_calls own) is
    ∙ later none
no_change true false call line lines own is none later = later none
no_change false mine call line lines own is none later = absurd (omega (arith, none))

no_changes : (number : List ℕ) (calls : Calls) → length (lines_of_calls calls) ≡ 0
    → changes_by number calls ≡ []
no_changes number [] none = refl
no_changes number (call ∷ calls) none =
    no_change (is_read call.event) (is_same_number call.by number) call
    (line_of (event_row call.event)) (lines_of_calls calls) (calls_by number calls) refl none
    (no_changes number calls)

-- of two fronts of one history, one begins with the other
longer_front : (a r b s : Calls) → a ++ r ≡ b ++ s → StartsWith b a ⊎ StartsWith a b
longer_front [] r b s same = inl (b, refl)
longer_front (c ∷ a) r [] s same = inr (c ∷ a, refl)
longer_front (c ∷ a) r (d ∷ b) s same =
    let lists : c ∷ (a ++ r) ≡ d ∷ (b ++ s) = same in
    let first : c ≡ d = cc in
    let rest : a ++ r ≡ b ++ s = cc in
    elim (longer_front a r b s rest) [
      | inl starts ↦ inl (starts.0, λ i. sym first i ∷ starts.1 i)
      | inr starts ↦ inr (starts.0, λ i. first i ∷ starts.1 i)
    ]

pub no_changing : (calls : Calls) → length (lines_of_calls calls) ≡ 0 → changing_calls calls ≡ []
no_changing [] none = refl
no_changing (call ∷ calls) none =
    no_change (is_read call.event) true call (line_of (event_row call.event))
    (lines_of_calls calls) calls refl none (no_changing calls)

-- a front with as many lines as another has all that a selection of calls without lines has of it
pub selection_kept : (select : Calls → Calls)
    → ((front rest : Calls) → select (front ++ rest) ≡ select front ++ select rest)
    → ((calls : Calls) → length (lines_of_calls calls) ≡ 0 → select calls ≡ [])
    → (calls a b rest : Calls) → StartsWith calls a → calls ≡ b ++ rest
    → length (lines_of_calls a) ≤ length (lines_of_calls b) → StartsWith (select b) (select a)
selection_kept select appends nothing calls a b rest starts all enough =
    elim (longer_front a starts.0 b rest (sym starts.1 ∙ all)) [
      | inl longer ↦ (
        select longer.0,
        ap select longer.1 ∙ appends a longer.0,
      )
      | inr shorter ↦
          let lines : length (lines_of_calls a)
          ≡ length (lines_of_calls b ++ lines_of_calls shorter.0) =
          ap (λ (cs : Calls). length (lines_of_calls cs)) shorter.1
          ∙ ap length (lines_append b shorter.0) in
          let none : length (lines_of_calls shorter.0) ≡ 0 = omega (
            arith,
            lines,
            enough,
            length-append (lines_of_calls b) (lines_of_calls shorter.0),
          ) in
          let same : select a ≡ select b =
          ap select shorter.1 ∙ appends b shorter.0
          ∙ ap (λ (cs : Calls). select b ++ cs) (nothing shorter.0 none)
          ∙ append-nil (select b) in
          ([], sym same ∙ sym (append-nil (select a)))
    ]

-- a front with as many lines as another has all its changing calls
changes_kept : (number : List ℕ) (calls a b rest : Calls) → StartsWith calls a
    → calls ≡ b ++ rest → length (lines_of_calls a) ≤ length (lines_of_calls b)
    → StartsWith (changes_by number b) (changes_by number a)
changes_kept number =
    selection_kept (changes_by number) (changes_append number) (no_changes number)

-- no answered call has to be kept if there is none
if_answered : (kept answered : Calls)
    → (0 < length answered → StartsWith kept (changing_calls answered))
    → StartsWith kept (changing_calls answered)
if_answered kept [] some = (kept, refl)
if_answered kept (call ∷ answered) some = some (omega arith)

-- the answered calls of one session
session_kept : (IsDurable : Calls → ℕ → Type 0) (number : List ℕ) (calls front rest : Calls)
    → (are : AreAnswered IsDurable number [] calls) → calls ≡ front ++ rest
    → (0 < length are.answered
    → length (lines_of_calls are.front) ≤ length (lines_of_calls front))
    → StartsWith (changes_by number front) (changing_calls are.answered)
session_kept IsDurable number calls front rest are all enough =
    if_answered (changes_by number front) are.answered (λ some.
    let kept = changes_kept number calls are.front front rest are.begins all (enough some) in
    (kept.0, kept.1 ∙ ap (λ (cs : Calls). changing_calls cs ++ kept.0) are.entered))

-- a meter that is resumed from a file with the lines of all answered calls continues them
pub answers_continue : (IsDurable : Calls → ℕ → Type 0) (ports : ℕ) (device began left : List ℕ)
    (trace : Trace) (calls : Calls) (recorder : Recording)
    → (sessions : AnswerSessions IsDurable ports calls) → IsText began → IsJournal began
    → trace_of began ≡ Ok trace → AreTraced (changing (run_events calls))
    → (saved : IsSavedFrom IsRenewedAs 0 (lines_in began) calls left)
    → HasAnsweredLines sessions saved.0 → (resumed : Continues device left recorder)
    → ContinuesAnswers sessions saved.0 (world_of trace) (world_of resumed.trace)
answers_continue IsDurable ports device began left trace calls recorder sessions text journal told
    fit saved has resumed =
    let found = front_continues saved.0 device began left trace calls recorder text journal told
    fit (saved.0, le_refl saved.0, saved.2) resumed in
    record {
      continues = found;
      answered = λ i late below.
          session_kept IsDurable (i ∷ []) calls found.front found.rest (sessions i late below)
          found.all (λ some. omega (arith, has i late below some, found.enough));
    }
