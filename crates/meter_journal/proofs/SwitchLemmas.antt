-- The changes of a supply output: each is to the other value, and a longer history has no fewer.
use Rattle.std.proofs.Common.{◌≡◌, ℕ, zero, suc, ◌+◌, ◌≤◌, Bool, true, false, not, List, [], ◌∷◌}
use Rattle.std.proofs.Common.{◌++◌, refl, sym, ap, ◌∙◌, arith, append_assoc, append-nil}
use Rattle.std.proofs.Common.{length, length-append}
use Rattle.std.proofs.lemmas.List.{map-append}
use Rattle.relay_core.specs.Machine.{at_event}
use Rattle.relay_core.specs.Opening.{world_of_opening}
use Rattle.relay_core.specs.Runs.{lines_of, world_after}
use Rattle.relay_core.specs.World.{World}
use Rattle.relay_core.specs.declared.opening.Opening.{Opening}
use Rattle.relay_events.specs.declared.event.Event.{Event}
use Rattle.relay_events.specs.declared.event.Event.TheVariants.{Get, GetList}
use Rattle.relay_events.specs.declared.reply.Line.{Line}
use Rattle.relay_events.specs.declared.reply.Reply.{Reply}
use Rattle.relay_recorder.specs.Histories.{Exchange, events_of}
use Rattle.turn_lock.specs.declared.turned.Entry.{Entry}
use Rattle.turn_lock.specs.History.{StartsWith}
use Rattle.shared_meter.specs.Calls.{Calls, events_and_replies, switches_of}
use Rattle.shared_meter.specs.Pending.{event_lines, lines_of_calls}
use Rattle.shared_meter.specs.Switching.{change, changes_in, is_on, switches_in}
use Rattle.meter_journal.specs.Relaying.{change_line, change_lines, output_after, output_line}
use Rattle.meter_journal.specs.Relaying.{relay_text, switch_text}
use Rattle.meter_journal.proofs.SavingLemmas.{lines_append}

-- ---- the lines of changes

-- the lines for one more value of the output, which may be the same
one_change : (before now : Bool) (count : ℕ)
    → change_line before now ++ switch_text now count
    ≡ switch_text before (change before now + count)
one_change true true count = ap (switch_text true) (omega arith)
one_change false false count = ap (switch_text false) (omega arith)
one_change true false count = ap (switch_text true) {x = suc count} {y = 1 + count} (omega arith)
one_change false true count = ap (switch_text false) {x = suc count} {y = 1 + count} (omega arith)

changes_counted : (before : Bool) (run : List Line)
    → change_lines before run ≡ switch_text before (changes_in before run)
changes_counted before [] = refl
changes_counted before (line ∷ run) =
    ap (λ (text : List ℕ). change_line before line.output ++ text)
    (changes_counted line.output run)
    ∙ one_change before line.output (changes_in line.output run)

pub text_of_changes : (w : World) (events : List Event) → relay_text w events
    ≡ output_line (is_on w) ++ switch_text (is_on w) (switches_in w events)
text_of_changes w events = ap (λ (text : List ℕ). output_line (is_on w) ++ text)
    (changes_counted (is_on w) (lines_of events w))

-- one more change
pub after_one : (first : Bool) (n : ℕ) → output_after first (n + 1) ≡ not (output_after first n)
after_one first zero = refl
after_one first (suc n) =
    let e : suc n + 1 ≡ suc (n + 1) = omega arith in
    ap (output_after first) e ∙ after_one (not first) n

pub text_one : (first : Bool) (n : ℕ) → switch_text first (n + 1)
    ≡ switch_text first n ++ output_line (not (output_after first n))
text_one first zero = append-nil (output_line (not first))
text_one first (suc n) =
    let e : suc n + 1 ≡ suc (n + 1) = omega arith in
    ap (switch_text first) e
    ∙ (ap (λ (text : List ℕ). output_line (not first) ++ text) (text_one (not first) n)
    ∙ sym (append_assoc (output_line (not first)) (switch_text (not first) n)
    (output_line (not (output_after (not first) n)))))

-- ---- the changes by a history

-- further events may add changes
switches_append : (events more : List Event) (w : World) → switches_in w (events ++ more)
    ≡ switches_in w events + switches_in (world_after events w) more
switches_append [] more w = omega arith
switches_append (event ∷ events) more w =
    let v = (at_event event w).world in
    let rest = switches_append events more v in
    omega (arith, rest)

events_append : (calls more : Calls) → events_of (events_and_replies (calls ++ more))
    ≡ events_of (events_and_replies calls) ++ events_of (events_and_replies more)
events_append calls more =
    ap events_of (map-append (λ (c : Entry Event Reply). (c.event, c.reply)) calls more)
    ∙ map-append (λ (told : Exchange). told.0) (events_and_replies calls) (events_and_replies more)

-- the changes by the further calls of a longer history
abbrev further : Opening → Calls → Calls → ℕ
further origin calls more =
    switches_in (world_after (events_of (events_and_replies calls)) (world_of_opening origin))
    (events_of (events_and_replies more))

switches_longer : (origin : Opening) (longer calls : Calls) → (starts : StartsWith longer calls)
    → switches_of origin longer ≡ switches_of origin calls + further origin calls starts.0
switches_longer origin longer calls starts =
    ap (switches_of origin) starts.1
    ∙ (ap (λ (es : List Event). switches_in (world_of_opening origin) es)
    (events_append calls starts.0)
    ∙ switches_append (events_of (events_and_replies calls))
    (events_of (events_and_replies starts.0)) (world_of_opening origin))

-- a longer history has no fewer changes
pub no_fewer : (origin : Opening) (longer calls : Calls) → StartsWith longer calls
    → switches_of origin calls ≤ switches_of origin longer
no_fewer origin longer calls starts =
    let all = switches_longer origin longer calls starts in omega (arith, all)

no_change : (on : Bool) → change on on ≡ 0
no_change true = refl
no_change false = refl

-- the changes of events that have no line
abbrev NoneOf : Calls → World → Type 0
NoneOf calls w = lines_of_calls calls ≡ []
    → switches_in w (events_of (events_and_replies calls)) ≡ 0

none_more : (event : Event) (events : List Event) (lines : List (List ℕ)) (w : World)
    → ((v : World) → lines ≡ [] → switches_in v events ≡ 0)
    → event_lines event ++ lines ≡ [] → switches_in w (event ∷ events) ≡ 0
unfolding at_event
none_more (Get level attr selected) events lines w rest none =
    let later : switches_in w events ≡ 0 = rest w none in
    let same = no_change (is_on w) in omega (arith, later, same)
none_more (GetList level items) events lines w rest none =
    let later : switches_in w events ≡ 0 = rest w none in
    let same = no_change (is_on w) in omega (arith, later, same)
none_more event events lines w rest none = absurd cc

-- calls without lines only read, and change no output
none_changed : (calls : Calls) (w : World) → NoneOf calls w
none_changed [] w none = refl
none_changed (call ∷ calls) w none =
    none_more call.event (events_of (events_and_replies calls)) (lines_of_calls calls) w
    (λ v less. none_changed calls v less) none

no_lines : (lines : List (List ℕ)) → length lines ≡ 0 → lines ≡ []
no_lines [] none = refl
no_lines (line ∷ lines) none = absurd (omega (arith, none))

-- a longer history with no more lines has the same changes
pub as_many : (origin : Opening) (longer calls : Calls) → StartsWith longer calls
    → length (lines_of_calls calls) ≡ length (lines_of_calls longer)
    → switches_of origin longer ≡ switches_of origin calls
as_many origin longer calls starts same =
    let all : lines_of_calls longer ≡ lines_of_calls calls ++ lines_of_calls starts.0 =
    ap lines_of_calls starts.1 ∙ lines_append calls starts.0 in
    let none : length (lines_of_calls starts.0) ≡ 0 = omega (
      arith,
      same,
      ap length all,
      length-append (lines_of_calls calls) (lines_of_calls starts.0),
    ) in
    let changes = switches_longer origin longer calls starts in
    let still = none_changed starts.0
    (world_after (events_of (events_and_replies calls)) (world_of_opening origin))
    (no_lines (lines_of_calls starts.0) none) in
    omega (arith, changes, still)
