-- Each line of an opening that is written is read back.
use Rattle.std.proofs.Common.{◌≡◌, ℕ, ◌≤◌, true, false, nat_eq, nat_le, ◌==◌, List, [], ◌∷◌, length, Option, Some, None, Ok, refl, arith, decimal, codes, eq-eqb}
use Rattle.std.proofs.lemmas.Bool.Decides.{nat_tests}
use Rattle.std.specs.List.{All}
use Rattle.std.specs.Cmp.Lexicographic.{pointwise}
use Rattle.std.specs.Prelude.{IfSome}
use Rattle.hex.specs.Hex.{encode_upper, IsBytes}
use Rattle.action_schedule.proofs.Again.{entries_written}
use Rattle.action_schedule.specs.Kinds.{number_of, type_of_number}
use Rattle.action_schedule.specs.Reading.{entries_of}
use Rattle.action_schedule.specs.Schedule.{Schedule, AreEntries}
use Rattle.action_schedule.specs.Writing.{entries_data}
use Rattle.action_schedule.specs.declared.kind.ScheduleType.{ScheduleType}
use Rattle.action_schedule.specs.declared.kind.ScheduleType.TheVariants.{Type1, Type2, Type3, Type4, Type5}
use Rattle.cosem_datetime.specs.declared.entry.EntryPattern.{EntryPattern}
use Rattle.disconnect_control.proofs.ModeLemmas.{mode_found}
use Rattle.disconnect_control.specs.Control.{is_mode_fit}
use Rattle.disconnect_control.specs.Transitions.{mode_number, state_number}
use Rattle.disconnect_control.specs.declared.state.ControlMode.{ControlMode}
use Rattle.disconnect_control.specs.declared.state.ControlMode.TheVariants.{Mode0, Mode1, Mode2, Mode3, Mode4, Mode5, Mode6}
use Rattle.disconnect_control.specs.declared.state.ControlState.{ControlState}
use Rattle.disconnect_control.specs.declared.state.ControlState.TheVariants.{Disconnected, Connected, ReadyForReconnection}
use Rattle.script_steps.proofs.Again.{table_again}
use Rattle.script_steps.specs.Table.{IsTable}
use Rattle.script_steps.specs.Writing.{data_of}
use Rattle.script_steps.specs.declared.step.Script.{Script}
use Rattle.text_lines.proofs.NumbersLemmas.{is_decimal-decimal}
use Rattle.text_lines.specs.Numbers.{is_decimal}
use Rattle.trace_words.proofs.WordLaws.{number_word_again, bytes_word_again, data_word_again, behind_again, labelled_again}
use Rattle.trace_openings.proofs.OpeningTables.{mode_small, entries_are_held, scripts_are_held}
use Rattle.trace_words.specs.Labels.{labelled_value, number_row}
use Rattle.trace_openings.specs.OpeningFields.{version_from, device_in, state_in, mode_in, moment_in, table_in, entries_in, type_in, schedule_from}
use Rattle.trace_openings.specs.OpeningRows.{moment_word, schedule_row}
use Rattle.trace_openings.specs.OpeningTraced.{IsTracedSchedule, IsTracedScript}
use Rattle.trace_words.specs.Reading.{value_in}
use Rattle.trace_words.specs.Rows.{Word}
use Rattle.trace_words.specs.Writing.{IsHeld, data_word}
use Rattle.trace_words.specs.declared.version.Version.TheVariants.{Two}

-- ---- words

device_again : (device : List ℕ) → 1 ≤ length device → length device ≤ 16 → IsBytes device
    → device_in (encode_upper device) ≡ Ok device
unfolding device_in
device_again device some few are =
    let read = bytes_word_again device (omega arith) are in
    let short : nat_le (length device) 16 ≡ true = grind (arith, nat_tests) in
    rw (read, short) refl

state_again : (state : ControlState) → state_in (decimal (state_number state)) ≡ Ok state
state_again Disconnected =
    let read = number_word_again 2 0 (omega arith) (omega arith) in
    rw read refl
state_again Connected = let read = number_word_again 2 1 (omega arith) (omega arith) in rw read refl
state_again ReadyForReconnection =
    let read = number_word_again 2 2 (omega arith) (omega arith) in
    rw read refl

mode_fits : (mode : ControlMode) (state : ControlState) → (mode ≡ Mode0 → state ≡ Connected)
    → is_mode_fit mode state ≡ true
unfolding is_mode_fit
mode_fits Mode0 state fit = let is : state ≡ Connected = fit refl in rw is refl
mode_fits Mode1 state fit = refl
mode_fits Mode2 state fit = refl
mode_fits Mode3 state fit = refl
mode_fits Mode4 state fit = refl
mode_fits Mode5 state fit = refl
mode_fits Mode6 state fit = refl

mode_again : (mode : ControlMode) (state : ControlState) → (mode ≡ Mode0 → state ≡ Connected)
    → mode_in state (decimal (mode_number mode)) ≡ Ok mode
unfolding mode_in
mode_again mode state fit =
    let read = number_word_again 6 (mode_number mode) (mode_small mode) (omega arith) in
    let found = mode_found mode in
    let fits = mode_fits mode state fit in
    rw (read, found, fits) refl

-- `-`, the word of no moment, is not a number
hyphen_is_no_number : (word : Word) → is_decimal word ≡ true
    → pointwise nat_eq word (codes "-") ≡ false
hyphen_is_no_number [] e = refl
hyphen_is_no_number (c ∷ []) e = grind (arith, nat_tests)
hyphen_is_no_number (c ∷ d ∷ word) e = grind (arith, nat_tests)

moment_again : (moment : Option ℕ) → IfSome moment (λ m. m ≤ 4294967295)
    → moment_in (moment_word moment) ≡ Ok moment
moment_again None le = refl
moment_again (Some m) le =
    let other = hyphen_is_no_number (decimal m) (is_decimal-decimal m (omega arith)) in
    let read = number_word_again 4294967295 m le (omega arith) in
    rw (other, read) refl

type_found : (kind : ScheduleType) → type_of_number (number_of kind) ≡ Some kind
type_found Type1 = refl
type_found Type2 = refl
type_found Type3 = refl
type_found Type4 = refl
type_found Type5 = refl

pub type_small : (kind : ScheduleType) → number_of kind ≤ 5
type_small Type1 = omega arith
type_small Type2 = omega arith
type_small Type3 = omega arith
type_small Type4 = omega arith
type_small Type5 = omega arith

type_again : (kind : ScheduleType) → type_in (decimal (number_of kind)) ≡ Ok kind
type_again kind =
    let read = number_word_again 5 (number_of kind) (type_small kind) (omega arith) in
    let found = type_found kind in
    rw (read, found) refl

table_word_again : (scripts : List Script) → IsTable scripts → All IsTracedScript scripts
    → table_in (data_word (data_of scripts)) ≡ Ok scripts
unfolding table_in
table_word_again scripts fits traced =
    let read = data_word_again (data_of scripts) (scripts_are_held scripts fits traced) in
    let table = table_again scripts fits in
    rw (read, table) refl

entries_again : (entries : List EntryPattern) → AreEntries entries
    → entries_of (entries_data entries) ≡ Ok entries
entries_again entries fits = entries_written {E = ℕ} (Ok (entries_data entries)) entries entries
    fits refl refl

entries_word_again : (entries : List EntryPattern) → AreEntries entries
    → IsHeld (entries_data entries) → entries_in (data_word (entries_data entries)) ≡ Ok entries
unfolding entries_in
entries_word_again entries fits held =
    let read = data_word_again (entries_data entries) held in
    let found = entries_again entries fits in
    rw (read, found) refl

-- ---- lines of one value

pub version_again : version_from (number_row (codes "RELAYTRACE") 2) ≡ Ok Two
version_again =
    let first = behind_again (codes "RELAYTRACE") (decimal 2 ∷ []) in
    let read = number_word_again 2 2 (omega arith) (omega arith) in
    rw (first, read) refl

pub device_line_again : (device : List ℕ) → 1 ≤ length device → length device ≤ 16 → IsBytes device
    → labelled_value (codes "device") device_in (codes "device" ∷ encode_upper device
    ∷ []) ≡ Ok device
device_line_again device some few are = labelled_again (codes "device")
    device_in (encode_upper device) device (device_again device some few are)

pub state_line_again : (state : ControlState)
    → labelled_value (codes "state") state_in (number_row (codes "state") (state_number state)) ≡ Ok
    state
state_line_again state = labelled_again (codes "state") state_in (decimal (state_number state))
    state (state_again state)

pub mode_line_again : (mode : ControlMode) (state : ControlState)
    → (mode ≡ Mode0 → state ≡ Connected)
    → labelled_value (codes "mode") (mode_in state) (number_row (codes "mode") (mode_number mode))
    ≡ Ok mode
mode_line_again mode state fit = labelled_again (codes "mode") (mode_in state)
    (decimal (mode_number mode)) mode (mode_again mode state fit)

pub moment_line_again : (moment : Option ℕ) → IfSome moment (λ m. m ≤ 4294967295)
    → labelled_value (codes "now") moment_in (codes "now" ∷ moment_word moment ∷ []) ≡ Ok moment
moment_line_again moment le = labelled_again (codes "now") moment_in (moment_word moment) moment
    (moment_again moment le)

pub value_line_again : (name : Word) (value : ℕ) → value ≤ 4294967295
    → labelled_value name value_in (number_row name value) ≡ Ok value
value_line_again name value le = labelled_again name value_in (decimal value) value
    (number_word_again 4294967295 value le (omega arith))

pub table_line_again : (scripts : List Script) → IsTable scripts → All IsTracedScript scripts
    → labelled_value (codes "scripts") table_in (codes "scripts" ∷ data_word (data_of scripts) ∷ [])
    ≡ Ok scripts
table_line_again scripts fits traced = labelled_again (codes "scripts")
    table_in (data_word (data_of scripts)) scripts (table_word_again scripts fits traced)

pub schedule_again : (number : ℕ) (schedule : Schedule) → number ≤ 3 → IsTracedSchedule schedule
    → schedule_from number (schedule_row number schedule) ≡ Ok schedule
unfolding schedule_from
schedule_again number schedule le traced =
    let first = behind_again (codes "schedule") (decimal number ∷ decimal schedule.selector
    ∷ decimal (number_of schedule.kind) ∷ data_word (entries_data schedule.entries) ∷ []) in
    let found = number_word_again 3 number le (omega arith) in
    let same : (number == number) ≡ true = eq-eqb number number refl in
    let selector = number_word_again 65535 schedule.selector traced.selector (omega arith) in
    let kind = type_again schedule.kind in
    let entries = entries_word_again schedule.entries traced.entries
    (entries_are_held schedule.entries traced.entries) in
    rw (first, found, same, selector, kind, entries) refl
