-- Each word of an opening that is read is written back as that word, except for a Data with several
-- spellings.
use Rattle.std.proofs.Common.{◌≡◌, ℕ, ◌≤◌, false, cond, nat_eq, nat_le, ◌==◌, List, length, Option, Some, None, Result, Ok, Err, refl, ap, ◌∙◌, arith, inl, inr, decimal, codes}
use Rattle.std.proofs.lemmas.Bool.{eqb-true}
use Rattle.std.proofs.lemmas.Bool.Decides.{nat_tests}
use Rattle.std.specs.Cmp.Lexicographic.{pointwise}
use Rattle.std.specs.Result.{result_ok}
use Rattle.wire_bytes.specs.Outcome.{◌>>=◌}
use Rattle.wire_bytes.proofs.OutcomeLemmas.{done, ok_is, bind_ok, guard_ok, chosen}
use Rattle.hex.specs.Hex.{encode_upper}
use Rattle.action_schedule.specs.Kinds.{number_of, type_of_number}
use Rattle.action_schedule.specs.Reading.{entries_of}
use Rattle.action_schedule.specs.declared.kind.ScheduleType.{ScheduleType}
use Rattle.action_schedule.specs.declared.kind.ScheduleType.TheVariants.{Type1, Type2, Type3, Type4, Type5}
use Rattle.cosem_axdr.specs.declared.value.Data.{Data}
use Rattle.cosem_datetime.proofs.Spelled.{date_time_takes}
use Rattle.cosem_datetime.specs.Fields.{DateTimeFields, date_time_bytes}
use Rattle.cosem_datetime.specs.Reading.{date_time_of}
use Rattle.cosem_datetime.specs.declared.entry.EntryPattern.{EntryPattern}
use Rattle.disconnect_control.specs.Control.{is_mode_fit}
use Rattle.disconnect_control.specs.Transitions.{mode_of, mode_number, state_number}
use Rattle.disconnect_control.specs.declared.state.ControlMode.{ControlMode}
use Rattle.disconnect_control.specs.declared.state.ControlMode.TheVariants.{Mode0, Mode1, Mode2, Mode3, Mode4, Mode5, Mode6}
use Rattle.disconnect_control.specs.declared.state.ControlState.{ControlState}
use Rattle.disconnect_control.specs.declared.state.ControlState.TheVariants.{Disconnected, Connected, ReadyForReconnection}
use Rattle.script_steps.specs.Reading.{table_of}
use Rattle.script_steps.specs.declared.step.Script.{Script}
use Rattle.trace_words.proofs.WordsBack.{wanted_is, IsWrittenBack, number_back, number_limited, bytes_back, bytes_are, same_is, data_back}
use Rattle.trace_openings.specs.OpeningFields.{version_in, device_in, state_in, mode_in, moment_in, start_in, table_in, entries_in, type_in}
use Rattle.trace_openings.specs.OpeningRows.{moment_word}
use Rattle.trace_words.specs.Reading.{number_in, bytes_in, data_in, value_in}
use Rattle.trace_words.specs.Rows.{Word, or_wrong}
use Rattle.trace_words.specs.Writing.{data_word}
use Rattle.trace_words.specs.declared.fault.RowFault.{RowFault}
use Rattle.trace_words.specs.declared.fault.RowFault.TheVariants.{Wrong}
use Rattle.trace_words.specs.declared.version.Version.{Version}
use Rattle.trace_words.specs.declared.version.Version.TheVariants.{One, Two}

-- a value found by its number among several: this one, or one of those tried later
found_back : (X : Type 0) (number : X → ℕ) (n k : ℕ) (x : X) (later : Option X) (y : X) → k
    ≡ number x → (later ≡ Some y → n ≡ number y) → cond (n == k) (Some x) later ≡ Some y
    → n ≡ number y
found_back X number n k x later y is back e =
    elim (chosen (n == k) (Some x) later (Some y) e) [
      | inl here ↦ let same : x ≡ y = cc in eqb-true n k here.0 ∙ is ∙ ap number same
      | inr other ↦ back other.1
    ]

mode_is : (n : ℕ) (mode : ControlMode) → mode_of n ≡ Some mode → n ≡ mode_number mode
mode_is n mode e =
    found_back ControlMode mode_number n 0 Mode0 _ mode refl (
    found_back ControlMode mode_number n 1 Mode1 _ mode refl (
    found_back ControlMode mode_number n 2 Mode2 _ mode refl (
    found_back ControlMode mode_number n 3 Mode3 _ mode refl (
    found_back ControlMode mode_number n 4 Mode4 _ mode refl (
    found_back ControlMode mode_number n 5 Mode5 _ mode refl (
    found_back ControlMode mode_number n 6 Mode6 _ mode refl (λ none. absurd (cc none)))))))) e

type_is : (n : ℕ) (kind : ScheduleType) → type_of_number n ≡ Some kind → n ≡ number_of kind
type_is n kind e =
    found_back ScheduleType number_of n 1 Type1 _ kind refl (
    found_back ScheduleType number_of n 2 Type2 _ kind refl (
    found_back ScheduleType number_of n 3 Type3 _ kind refl (
    found_back ScheduleType number_of n 4 Type4 _ kind refl (
    found_back ScheduleType number_of n 5 Type5 _ kind refl (λ none. absurd (cc none)))))) e

-- the number of a version
abbrev pub version_number : Version → ℕ
version_number One = 1
version_number Two = 2

version_is : (n : ℕ) (version : Version) → cond (n == 1) (done RowFault One)
    (cond (n == 2) (Ok Two) (Err Wrong)) ≡ Ok version → n ≡ version_number version
version_is n version e =
    elim (chosen (n == 1) (done RowFault One) (cond (n == 2) (Ok Two) (Err Wrong)) (Ok version) e) [
      | inl one ↦ eqb-true n 1 one.0 ∙ ap version_number (ok_is One version one.1)
      | inr other ↦
          elim (chosen (n == 2) (done RowFault Two) (Err Wrong) (Ok version) other.1) [
            | inl two ↦ eqb-true n 2 two.0 ∙ ap version_number (ok_is Two version two.1)
            | inr none ↦ absurd (cc (none.1))
          ]
    ]

pub version_word_back : IsWrittenBack Version version_in (λ version. decimal
    (version_number version))
version_word_back word version e =
    let read = bind_ok (number_in 2 word) _ version e in
    number_back 2 (omega arith) word read.0 read.1 ∙ ap decimal (version_is read.0 version read.2)

pub device_back : IsWrittenBack (List ℕ) device_in encode_upper
unfolding device_in
device_back word device e =
    let read = bind_ok (bytes_in word) _ device e in
    let few = guard_ok (nat_le (length read.0) 16) Wrong _ device read.2 in
    bytes_back word read.0 read.1 ∙ ap encode_upper (ok_is read.0 device few.1)

two_left : (n : ℕ) → n ≤ 2 → (n == 0) ≡ false → (n == 1) ≡ false → n ≡ 2
two_left n le zero one = grind (arith, nat_tests)

state_is : (n : ℕ) (state : ControlState) → n ≤ 2
    → cond (n == 0) Disconnected (cond (n == 1) Connected ReadyForReconnection) ≡ state → n
    ≡ state_number state
state_is n state le e =
    elim (chosen (n == 0) Disconnected (cond (n == 1) Connected ReadyForReconnection) state e) [
      | inl zero ↦ eqb-true n 0 zero.0 ∙ ap state_number zero.1
      | inr some ↦
          elim (chosen (n == 1) Connected ReadyForReconnection state some.1) [
            | inl one ↦ eqb-true n 1 one.0 ∙ ap state_number one.1
            | inr two ↦ two_left n le some.0 two.0 ∙ ap state_number two.1
          ]
    ]

pub state_back : IsWrittenBack ControlState state_in (λ state. decimal (state_number state))
state_back word state e =
    let read = bind_ok (number_in 2 word) _ state e in
    number_back 2 (omega arith) word read.0 read.1
    ∙ ap decimal (state_is read.0 state (number_limited 2 (omega arith) word read.0 read.1)
    (ok_is (cond (read.0 == 0) Disconnected (cond (read.0 == 1) Connected ReadyForReconnection))
    state read.2))

pub mode_back : (state : ControlState) → IsWrittenBack ControlMode (mode_in state)
    (λ mode. decimal (mode_number mode))
unfolding mode_in
mode_back state word mode e =
    let read = bind_ok (number_in 6 word) _ mode e in
    let found = bind_ok (or_wrong (mode_of read.0)) _ mode read.2 in
    let fits = guard_ok (is_mode_fit found.0 state) Wrong _ mode found.2 in
    number_back 6 (omega arith) word read.0 read.1
    ∙ ap decimal (mode_is read.0 found.0 (wanted_is (mode_of read.0) found.0 found.1))
    ∙ ap (λ (m : ControlMode). decimal (mode_number m)) (ok_is found.0 mode fits.1)

pub moment_back : IsWrittenBack (Option ℕ) moment_in moment_word
moment_back word moment e =
    elim (chosen (pointwise nat_eq word (codes "-")) (done RowFault None) (value_in word
    >>= λ m. Ok (Some m)) (Ok moment) e) [
      | inl none ↦ same_is word (codes "-") none.0 ∙ ap moment_word (ok_is None moment none.1)
      | inr some ↦
          let read = bind_ok (value_in word) _ moment some.1 in
          number_back 4294967295 (omega arith) word read.0 read.1
          ∙ ap moment_word (ok_is (Some read.0) moment read.2)
    ]

value_of_ok : (X F : Type 0) (r : Result X F) (x : X) → result_ok r ≡ Some x → r ≡ Ok x
value_of_ok X F (Ok y) x e = cc
value_of_ok X F (Err fault) x e = absurd (cc e)

pub start_back : IsWrittenBack DateTimeFields start_in (λ start. encode_upper
    (date_time_bytes start))
unfolding start_in
start_back word start e =
    let read = bind_ok (bytes_in word) _ start e in
    let found = value_of_ok _ _ (date_time_of read.0) start
    (wanted_is (result_ok (date_time_of read.0)) start read.2) in
    bytes_back word read.0 read.1 ∙ ap encode_upper
    (date_time_takes read.0 start (bytes_are word read.0 read.1) found).1

pub type_back : IsWrittenBack ScheduleType type_in (λ kind. decimal (number_of kind))
type_back word kind e =
    let read = bind_ok (number_in 5 word) _ kind e in
    number_back 5 (omega arith) word read.0 read.1
    ∙ ap decimal (type_is read.0 kind (wanted_is (type_of_number read.0) kind read.2))

-- a Data that is read as these scripts, or as these entries
pub table_read : (word : Word) (scripts : List Script) → table_in word ≡ Ok scripts → (table : Data)
    × (table_of table ≡ Ok scripts) × (word ≡ data_word table)
unfolding table_in
table_read word scripts e =
    let read = bind_ok (data_in word) _ scripts e in (
      read.0,
      value_of_ok _ _ (table_of read.0) scripts
          (wanted_is (result_ok (table_of read.0)) scripts read.2),
      data_back word read.0 read.1,
    )

pub entries_read : (word : Word) (entries : List EntryPattern) → entries_in word ≡ Ok entries
    → (form : Data) × (entries_of form ≡ Ok entries) × (word ≡ data_word form)
unfolding entries_in
entries_read word entries e =
    let read = bind_ok (data_in word) _ entries e in (
      read.0,
      value_of_ok _ _ (entries_of read.0) entries
          (wanted_is (result_ok (entries_of read.0)) entries read.2),
      data_back word read.0 read.1,
    )
