-- A front of the lines of a run is that of a front of its calls.
use Rattle.std.proofs.Common.{◌≡◌, ℕ, zero, suc, ◌≤◌, Bool, true, false, List, [], ◌∷◌, ◌++◌, length}
use Rattle.std.proofs.Common.{take, Ok, refl, sym, ap, subst, arith}
use Rattle.std.specs.Prelude.{not, if◌then◌else◌}
use Rattle.crashed_runs.specs.Fronts.{ContinuesFront, run_events}
use Rattle.durable_lines.specs.Holding.{Holds}
use Rattle.durable_lines.specs.Lines.{lines_in, IsText}
use Rattle.journal_files.specs.Journals.{Continues, changing}
use Rattle.journal_files.specs.Renewals.{IsRenewedAs}
use Rattle.journal_files.specs.Running.{event_lines}
use Rattle.journal_files.proofs.RunLemmas.{run_told}
use Rattle.meter_journal.specs.Saving.{IsSavedFrom}
use Rattle.meter_journal.proofs.SavingLemmas.{take_zero}
use Rattle.relay_events.specs.Kinds.{is_read}
use Rattle.relay_events.specs.declared.event.Event.{Event}
use Rattle.relay_events.specs.declared.reply.Reply.{Reply}
use Rattle.relay_recorder.specs.Recording.{Recording}
use Rattle.relay_recorder.specs.declared.trace.Trace.{Trace}
use Rattle.shared_meter.specs.Calls.{Calls}
use Rattle.shared_meter.specs.Pending.{lines_of_calls}
use Rattle.text_lines.specs.Words.{line_of}
use Rattle.trace_lines.specs.Writing.{event_row}
use Rattle.trace_player.specs.Journals.{IsJournal}
use Rattle.trace_player.specs.Resuming.{world_of}
use Rattle.trace_player.specs.Traces.{trace_of}
use Rattle.trace_player.specs.Written.{AreTraced}
use Rattle.turn_lock.specs.declared.turned.Entry.{Entry}

abbrev Lines : Type 0
Lines = List (List ℕ)

-- the events of calls whose lines are read back
abbrev AreFit : Calls → Type 0
AreFit calls = AreTraced (changing (run_events calls))

-- the first calls of a history, which have the first n lines
record Front (n : ℕ) (calls : Calls) : Type 0 where
  pub front : Calls
  pub rest : Calls
  pub all : calls ≡ front ++ rest
  pub count : length (lines_of_calls front) ≡ n
  pub lines : take n (lines_of_calls calls) ≡ event_lines (changing (run_events front))
  pub fit : AreFit calls → AreFit front

-- no call
no_calls : (calls : Calls) → Front 0 calls
no_calls calls = record {
  front = [];
  rest = calls;
  all = refl;
  count = refl;
  lines = take_zero (lines_of_calls calls);
  fit = λ are. tt;
}

-- the lines and events of one more call
abbrev lines_with : Bool → List ℕ → Lines → Lines
lines_with read line lines = (if read then [] else line ∷ []) ++ lines

abbrev events_with : Bool → Event → List Event → List Event
events_with read event events = if not read then event ∷ events else events

-- one more call, which has no line if it only reads
record OneMore (read : Bool) (event : Event) (n : ℕ) (lines front : Lines)
    (events all : List Event) : Type 0 where
  pub count : length (lines_with read (line_of (event_row event)) front) ≡ n
  pub lines_are : take n (lines_with read (line_of (event_row event)) lines)
      ≡ event_lines (events_with read event events)
  pub fit : AreTraced (events_with read event all) → AreTraced (events_with read event events)

one_read : (event : Event) (n : ℕ) (lines front : Lines) (events all : List Event)
    → length front ≡ n → take n lines ≡ event_lines events → (AreTraced all → AreTraced events)
    → OneMore true event n lines front events all
one_read event n lines front events all count are fit =
    record { count = count; lines_are = are; fit = fit }

one_line : (event : Event) (n : ℕ) (lines front : Lines) (events all : List Event)
    → length front ≡ n → take n lines ≡ event_lines events → (AreTraced all → AreTraced events)
    → OneMore false event (suc n) lines front events all
one_line event n lines front events all count are fit = record {
  count = ap suc count;
  lines_are = ap (λ (ls : Lines). line_of (event_row event) ∷ ls) are;
  fit = λ traced. (traced.0, fit traced.1);
}

with_call : (call : Entry Event Reply) (calls front rest : Calls) (n : ℕ) → calls ≡ front ++ rest
    → OneMore (is_read call.event) call.event n (lines_of_calls calls) (lines_of_calls front)
    (changing (run_events front)) (changing (run_events calls)) → Front n (call ∷ calls)
with_call call calls front rest n all more = record {
  front = call ∷ front;
  rest = rest;
  all = ap (λ (cs : Calls). call ∷ cs) all;
  count = more.count;
  lines = more.lines_are;
  fit = more.fit;
}

front_by : (call : Entry Event Reply) (calls : Calls) (n : ℕ)
    → ((m : ℕ) → m ≤ length (lines_of_calls calls) → Front m calls) → (read : Bool)
    → is_read call.event ≡ read → suc n ≤ length (lines_of_calls (call ∷ calls))
    → Front (suc n) (call ∷ calls)
front_by call calls n others true is le =
    let line = line_of (event_row call.event) in
    let within : suc n ≤ length (lines_of_calls calls) =
    subst (λ r. suc n ≤ length (lines_with r line (lines_of_calls calls))) is le in
    let f = others (suc n) within in
    let kept = changing (run_events f.front) in
    let all = changing (run_events calls) in
    with_call call calls f.front f.rest (suc n) f.all
    (subst (λ r. OneMore r call.event (suc n) (lines_of_calls calls) (lines_of_calls f.front) kept
    all) (sym is)
    (one_read call.event (suc n) (lines_of_calls calls) (lines_of_calls f.front) kept all f.count
    f.lines f.fit))
front_by call calls n others false is le =
    let line = line_of (event_row call.event) in
    let more : suc n ≤ length (lines_with false line (lines_of_calls calls)) =
    subst (λ r. suc n ≤ length (lines_with r line (lines_of_calls calls))) is le in
    let f = others n (omega (arith, more)) in
    let kept = changing (run_events f.front) in
    let all = changing (run_events calls) in
    with_call call calls f.front f.rest (suc n) f.all
    (subst (λ r. OneMore r call.event (suc n) (lines_of_calls calls) (lines_of_calls f.front) kept
    all) (sym is)
    (one_line call.event n (lines_of_calls calls) (lines_of_calls f.front) kept all f.count f.lines
    f.fit))

front_of : (calls : Calls) (n : ℕ) → n ≤ length (lines_of_calls calls) → Front n calls
front_of calls zero le = no_calls calls
front_of [] (suc n) le = absurd (omega (arith, le))
front_of (call ∷ calls) (suc n) le =
    front_by call calls n (λ m within. front_of calls m within) (is_read call.event) refl le

-- a meter that is resumed from a file that holds a front of a run continues that front
pub front_continues : (from : ℕ) (device began left : List ℕ) (trace : Trace) (calls : Calls)
    (recorder : Recording) → IsText began → IsJournal began → trace_of began ≡ Ok trace
    → AreFit calls → IsSavedFrom IsRenewedAs from (lines_in began) calls left
    → (resumed : Continues device left recorder)
    → ContinuesFront from calls (world_of trace) (world_of resumed.trace)
front_continues from device began left trace calls recorder text journal told fit saved resumed =
    let f = front_of calls saved.0 saved.2.within in
    let held : Holds IsRenewedAs (lines_in began) (event_lines (changing (run_events f.front)))
    left =
    subst (λ (ls : Lines). Holds IsRenewedAs (lines_in began) ls left) f.lines saved.2.lines in
    record {
      front = f.front;
      rest = f.rest;
      all = f.all;
      enough = omega (arith, f.count, saved.1);
      answers = run_told device began left trace (run_events f.front) recorder text journal told
          (f.fit fit) held resumed;
    }
