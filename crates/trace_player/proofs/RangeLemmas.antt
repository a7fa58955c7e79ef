-- A trace that fits its text is one whose text is read back.
use Rattle.std.proofs.Common.{◌≡◌, ◌≤◌, ◌++◌, ℕ, List, [], ◌∷◌, All, Ok, length}
use Rattle.std.proofs.lemmas.List.Elements.{All-head, All-tail}
use Rattle.relay_core.specs.Opening.{IsFitOpening}
use Rattle.relay_events.specs.declared.event.Event.{Event}
use Rattle.relay_recorder.specs.Recording.{max_capacity}
use Rattle.relay_recorder.specs.declared.trace.Trace.{Trace}
use Rattle.trace_lines.specs.Traced.{FitsLine, IsTraced}
use Rattle.trace_openings.specs.OpeningTraced.{IsWritable}
use Rattle.trace_words.specs.WholeLines.{IsTail}
use Rattle.trace_player.proofs.ShortTraces.{few_are_short}
use Rattle.trace_player.specs.Journals.{FitsJournal, events_text, journal_text, with_events}
use Rattle.trace_player.specs.Traces.{max_bytes, trace_of, trace_text}
use Rattle.trace_player.specs.Written.{AreTraced, FitsText, IsWritableTrace}

abbrev ReadsAgain : Event → Type 0
ReadsAgain event = FitsLine event → IsTraced event

are_traced : (events : List Event) → All ReadsAgain events → All FitsLine events → AreTraced events
are_traced [] again fit = tt
are_traced (event ∷ events) again fit = (
  All-head ReadsAgain event events again (All-head FitsLine event events fit),
  are_traced events (All-tail ReadsAgain event events again)
      (All-tail FitsLine event events fit),
)

pub is_writable : (trace : Trace) → (IsFitOpening trace.opening → IsWritable trace.opening)
    → All (λ event. FitsLine event → IsTraced event) trace.events
    → FitsText trace → length (trace_text trace) ≤ max_bytes → IsWritableTrace trace
is_writable trace opening events fits short = record {
  opening = opening fits.fit;
  events = are_traced trace.events events fits.events;
  few = fits.few;
  short = short;
}

pub is_short : (trace : Trace) → (IsFitOpening trace.opening → IsWritable trace.opening)
    → All (λ event. FitsLine event → IsTraced event) trace.events
    → FitsText trace → length trace.events ≤ max_capacity → length (trace_text trace) ≤ max_bytes
is_short trace opening events fits few = few_are_short trace (opening fits.fit)
    (are_traced trace.events events fits.events) few

-- what the law of journals states for this trace
abbrev ReadsWhole : Trace → Type 0
ReadsWhole trace = IsWritable trace.opening → AreTraced trace.events
    → length (journal_text trace) ≤ max_bytes → trace_of (journal_text trace) ≡ Ok trace

abbrev ReadsGrown : Trace → Type 0
ReadsGrown trace = (more : List Event) (tail : List ℕ) → IsWritable trace.opening
    → AreTraced trace.events → AreTraced more → IsTail tail
    → length (journal_text trace ++ events_text more ++ tail) ≤ max_bytes
    → trace_of (journal_text trace ++ events_text more ++ tail) ≡ Ok (with_events trace more)

pub journal_whole : (trace : Trace) → (IsFitOpening trace.opening → IsWritable trace.opening)
    → All ReadsAgain trace.events → ReadsWhole trace
    → FitsJournal trace → length (journal_text trace) ≤ max_bytes
    → trace_of (journal_text trace) ≡ Ok trace
journal_whole trace opening events again fits short =
    again (opening fits.fit) (are_traced trace.events events fits.events) short

pub journal_grown : (trace : Trace) → (IsFitOpening trace.opening → IsWritable trace.opening)
    → All ReadsAgain trace.events → ReadsGrown trace
    → FitsJournal trace → (more : List Event) (tail : List ℕ) → AreTraced more → IsTail tail
    → length (journal_text trace ++ events_text more ++ tail) ≤ max_bytes
    → trace_of (journal_text trace ++ events_text more ++ tail) ≡ Ok (with_events trace more)
journal_grown trace opening events again fits more tail others is_tail short =
    again more tail (opening fits.fit) (are_traced trace.events events fits.events) others is_tail
    short

pub ruleset journals = (journal_whole, journal_grown)
