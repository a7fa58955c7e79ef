-- A journal that was renewed while its meter ran has the events of the run.
use Rattle.std.proofs.Common.{◌≡◌, ℕ, zero, suc, ◌≤◌, Bool, true, false, List, [], ◌∷◌, ◌++◌}
use Rattle.std.proofs.Common.{Result, Ok, Err, length}
use Rattle.std.specs.Prelude.{if◌then◌else◌}
use Rattle.std.proofs.Common.{nat_lt, refl, sym, ap, ◌∙◌, subst, append-nil}
use Rattle.std.proofs.lemmas.Bool.{ltb-false}
use Rattle.durable_lines.specs.Holding.{HoldsAfter}
use Rattle.durable_lines.specs.Lines.{lines_in, text_of, IsText}
use Rattle.durable_lines.proofs.LineLemmas.{text_of-append}
use Rattle.relay_core.proofs.RunLemmas.{world_after-append}
use Rattle.relay_core.specs.Machine.{at_event}
use Rattle.relay_core.specs.Opening.{world_of_opening}
use Rattle.relay_core.specs.Runs.{world_after}
use Rattle.relay_core.specs.World.{World}
use Rattle.relay_events.specs.declared.event.Event.{Event}
use Rattle.relay_events.specs.declared.reply.Reply.{Reply}
use Rattle.relay_recorder.specs.Recording.{Recording}
use Rattle.relay_recorder.specs.declared.trace.Trace.{Trace}
use Rattle.text_lines.proofs.LinesLemmas.{lines_of-nil, rows_of-none}
use Rattle.text_lines.specs.Lines.{rows_text}
use Rattle.text_lines.specs.Words.{line_of}
use Rattle.trace_lines.specs.Writing.{event_row}
use Rattle.trace_player.proofs.Appended.{appended_again}
use Rattle.trace_player.proofs.Recovered.{recovered_again}
use Rattle.trace_player.specs.Journals.{IsJournal, events_text, with_events}
use Rattle.trace_player.specs.Resuming.{world_of}
use Rattle.trace_player.specs.Traces.{max_bytes, trace_from, trace_of}
use Rattle.trace_player.specs.Written.{AreTraced}
use Rattle.trace_words.specs.Places.{place_of}
use Rattle.trace_words.specs.WholeLines.{IsTail, before_zero}
use Rattle.trace_words.specs.declared.fault.TraceFault.{TraceFault}
use Rattle.trace_words.specs.declared.fault.TraceFault.TheVariants.{TooLong}
use Rattle.journal_files.specs.Journals.{Continues, changing}
use Rattle.journal_files.specs.Renewals.{AnswerAlike, IsRenewedAs}
use Rattle.journal_files.specs.Running.{HoldsRun, event_lines}
use Rattle.journal_files.proofs.RenewalLemmas.{same_trace}
use Rattle.journal_files.proofs.Restarts.{changing_world}
use Rattle.journal_files.proofs.WholeTexts.{whole_text-lines_in, whole_text-text}

abbrev Lines : Type 0
Lines = List (List ℕ)

-- ---- meters that answer alike

same_rest : (x y : Reply) (xs ys : List Reply) → x ∷ xs ≡ y ∷ ys → xs ≡ ys
same_rest x y xs ys same = cc

-- meters that answer alike do so after the same events
alike_after : (events : List Event) (v w : World) → AnswerAlike v w
    → AnswerAlike (world_after events v) (world_after events w)
alike_after [] v w alike = alike
alike_after (event ∷ events) v w alike =
    let a = at_event event v in
    let b = at_event event w in
    alike_after events a.world b.world
    (λ further. same_rest a.reply b.reply _ _ (alike (event ∷ further)))

-- ---- the events of lines

-- the lines of events, cut in two
record Cut (events : List Event) (base rest : Lines) : Type 0 where
  pub first : List Event
  pub others : List Event
  pub all : events ≡ first ++ others
  pub of_first : event_lines first ≡ base
  pub of_others : event_lines others ≡ rest

same_line : (x y : List ℕ) (xs ys : Lines) → x ∷ xs ≡ y ∷ ys → x ≡ y
same_line x y xs ys same = cc

same_lines : (x y : List ℕ) (xs ys : Lines) → x ∷ xs ≡ y ∷ ys → xs ≡ ys
same_lines x y xs ys same = cc

no_lines : (line : List ℕ) (lines : Lines) → [] ≡ line ∷ lines → ⊥
no_lines line lines same = cc

cut_events : (events : List Event) (base rest : Lines) → event_lines events ≡ base ++ rest
    → Cut events base rest
cut_events events [] rest same =
    record { first = []; others = events; all = refl; of_first = refl; of_others = same }
cut_events [] (line ∷ base) rest same = absurd (no_lines line (base ++ rest) same)
cut_events (event ∷ events) (line ∷ base) rest same =
    let own = line_of (event_row event) in
    let is = same_line own line (event_lines events) (base ++ rest) same in
    let cut = cut_events events base rest
    (same_lines own line (event_lines events) (base ++ rest) same) in
    record {
      first = event ∷ cut.first;
      others = cut.others;
      all = ap (λ (es : List Event). event ∷ es) cut.all;
      of_first = (λ i. is i ∷ cut.of_first i);
      of_others = cut.of_others;
    }

traced_first : (first others : List Event) → AreTraced (first ++ others) → AreTraced first
traced_first [] others are = tt
traced_first (event ∷ first) others are = (are.0, traced_first first others are.1)

traced_others : (first others : List Event) → AreTraced (first ++ others) → AreTraced others
traced_others [] others are = are
traced_others (event ∷ first) others are = traced_others first others are.1

-- ---- a journal to which lines were appended

refused : (long : Bool) (r : Result Trace TraceFault) (trace : Trace)
    → (if long then Err TooLong else r) ≡ Ok trace → long ≡ false
refused true r trace is = absurd cc
refused false r trace is = refl

-- a text that is read is short
short_text : (text : List ℕ) (trace : Trace) → trace_of text ≡ Ok trace → length text ≤ max_bytes
unfolding trace_of
short_text text trace is = ltb-false max_bytes (length text)
    (refused (nat_lt max_bytes (length text)) (trace_from (place_of text)) trace is)

no_tail : IsTail []
no_tail = ap before_zero (rows_of-none [] lines_of-nil)

lines_text : (events : List Event) → text_of (event_lines events) ≡ events_text events
unfolding rows_text
lines_text events = refl

-- a file with the lines of a journal and those of events is read as the journal with these events
grown : (text : List ℕ) (first : Trace) (events : List Event) (c : List ℕ) (trace : Trace)
    → IsText text → IsJournal text → trace_of text ≡ Ok first → AreTraced events
    → lines_in c ≡ lines_in text ++ event_lines events
    → trace_of (text_of (lines_in c)) ≡ Ok trace → with_events first events ≡ trace
grown text first events c trace is_text journal told are lines read =
    let is : text_of (lines_in c) ≡ text ++ events_text events ++ [] =
    ap text_of lines ∙ text_of-append (lines_in text) (event_lines events)
    ∙ (λ i. sym is_text i ++ lines_text events i) ∙ sym (append-nil (text ++ events_text events)) in
    let short : length (text ++ events_text events ++ []) ≤ max_bytes =
    subst (λ (bytes : List ℕ). length bytes ≤ max_bytes) is
    (short_text (text_of (lines_in c)) trace read) in
    same_trace (trace_of (text_of (lines_in c))) (with_events first events) trace
    (ap trace_of is ∙ appended_again text first events [] journal told
    (whole_text-text text is_text) are no_tail short)
    read

-- ---- a journal that was renewed meanwhile

module _ (began : List ℕ) (first : Trace) (is_text : IsText began) (journal : IsJournal began)
    (told : trace_of began ≡ Ok first) where
  tells : (n : ℕ) (events : List Event) (c : List ℕ) (trace : Trace) → AreTraced events
      → HoldsAfter IsRenewedAs (lines_in began) n (event_lines events) c
      → trace_of (text_of (lines_in c)) ≡ Ok trace
      → AnswerAlike (world_of trace) (world_after events (world_of first))
  tells zero events c trace are held read =
      let same = grown began first events c trace is_text journal told are held read in
      subst (λ (t : Trace). AnswerAlike (world_of t) (world_after events (world_of first))) same
      (subst (λ (w : World). AnswerAlike w (world_after events (world_of first)))
      (sym (world_after-append first.events events (world_of_opening first.opening)))
      (λ further. refl))
  tells (suc n) events c trace are held read =
      let cut = cut_events events held.base held.rest held.all in
      let both : AreTraced (cut.first ++ cut.others) = subst AreTraced cut.all are in
      let renewal = held.renewal.renewal in
      let later = renewal.later in
      let v = world_after cut.first (world_of first) in
      let before : AnswerAlike (world_of renewal.earlier) v =
      tells n cut.first held.old renewal.earlier (traced_first cut.first cut.others both)
      (subst (λ (ls : Lines). HoldsAfter IsRenewedAs (lines_in began) n ls held.old)
      (sym cut.of_first) held.held)
      (ap trace_of (sym held.renewal.old_text) ∙ renewal.told) in
      let at_base : AnswerAlike (world_of later) v =
      λ further. renewal.begins_later.answers further ∙ before further in
      let after = alike_after cut.others (world_of later) v at_base in
      let same = grown held.renewed later cut.others c trace held.renewal.new_text renewal.journal
      renewal.read_back (traced_others cut.first cut.others both)
      (held.appended ∙ ap (λ (ls : Lines). lines_in held.renewed ++ ls) (sym cut.of_others)) read in
      subst (λ (t : Trace). AnswerAlike (world_of t) (world_after events (world_of first))) same
      (subst (λ (w : World). AnswerAlike w (world_after events (world_of first)))
      (sym (world_after-append later.events cut.others (world_of_opening later.opening)))
      (subst (λ (es : List Event). AnswerAlike (world_after cut.others (world_of later))
      (world_after es (world_of first))) (sym cut.all)
      (subst (λ (w : World). AnswerAlike (world_after cut.others (world_of later)) w)
      (sym (world_after-append cut.first cut.others (world_of first))) after)))

-- a meter that is resumed from a file that holds a run answers as the meter of the run
pub run_told : (device began c : List ℕ) (first : Trace) (events : List Event)
    (recorder : Recording) → IsText began → IsJournal began → trace_of began ≡ Ok first
    → AreTraced (changing events) → HoldsRun began events c
    → (from : Continues device c recorder)
    → AnswerAlike (world_of from.trace) (world_after events (world_of first))
run_told device began c first events recorder is_text journal told are held from =
    subst (λ (w : World). AnswerAlike (world_of from.trace) w)
    (changing_world events (world_of first))
    (tells began first is_text journal told held.0 (changing events) c from.trace are held.1
    (ap trace_of (sym (whole_text-lines_in c))
    ∙ recovered_again c from.trace from.journal from.told))
