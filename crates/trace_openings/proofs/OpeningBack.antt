-- The lines that an opening is read from are the lines that are written for it, except for the
-- values of type Data in them.
use Rattle.std.proofs.Common.{◌≡◌, ℕ, ◌+◌, List, [], ◌∷◌, ◌++◌, Ok, refl, sym, ap, subst, ◌∙◌, codes}
use Rattle.hex.specs.Hex.{encode_upper}
use Rattle.wire_bytes.proofs.OutcomeLemmas.{ok_is, bind_ok}
use Rattle.action_schedule.specs.Reading.{entries_of}
use Rattle.action_schedule.specs.Schedule.{Schedule}
use Rattle.cosem_axdr.specs.declared.value.Data.{Data}
use Rattle.cosem_names.specs.declared.objects.Which.TheVariants.{Import, Export}
use Rattle.disconnect_control.specs.Transitions.{mode_number, state_number}
use Rattle.disconnect_control.specs.declared.state.ControlMode.{ControlMode}
use Rattle.disconnect_control.specs.declared.state.ControlState.{ControlState}
use Rattle.relay_core.specs.declared.opening.Opening.{Opening}
use Rattle.relay_core.specs.declared.schedules.Schedules.{Schedules}
use Rattle.script_steps.specs.Reading.{table_of}
use Rattle.script_steps.specs.declared.step.Script.{Script}
use Rattle.trace_words.proofs.LabelsBack.{labelled_read}
use Rattle.trace_openings.proofs.OpeningFieldsBack.{version_back, device_line_back, state_line_back, mode_line_back, moment_line_back, schedule_read, value_back}
use Rattle.trace_openings.proofs.OpeningWordsBack.{version_number, table_read}
use Rattle.trace_openings.specs.OpeningFields.{label, version_from, device_in, state_in, mode_in, moment_in, table_in, schedule_from}
use Rattle.trace_words.specs.Labels.{labelled_value, number_row}
use Rattle.trace_openings.specs.OpeningForms.{Forms, AreFormsOf, written_forms, entries_row, rows_with}
use Rattle.trace_openings.specs.OpeningReading.{value_line, limiter_from, export_from, schedules_from, opening_with, opening_in, opening_from}
use Rattle.trace_openings.specs.OpeningRows.{moment_word, value_row, limiter_rows, opening_rows}
use Rattle.trace_words.specs.Places.{Place, line_as}
use Rattle.trace_words.specs.Rows.{Word, Row}
use Rattle.trace_words.specs.Writing.{data_word}
use Rattle.trace_words.specs.declared.version.Version.{Version}
use Rattle.trace_words.specs.declared.version.Version.TheVariants.{Two}
use Rattle.trace_words.proofs.PlacesBack.{carried, Took, then, line_read, line_back}
use Rattle.trace_openings.proofs.LimitersBack.{limiter_back, export_back}

-- ---- the script table and the schedules

-- the line of the script table, with this Data
record TableRead (scripts : List Script) (place behind : Place) : Type 0 where
  pub form : Data
  pub says : table_of form ≡ Ok scripts
  pub took : Took ((codes "scripts" ∷ data_word form ∷ []) ∷ []) place behind

table_back : (place : Place) (scripts : List Script) (behind : Place)
    → line_as (labelled_value (codes "scripts") table_in) place ≡ Ok (scripts, behind)
    → TableRead scripts place behind
table_back place scripts behind e =
    let line = line_read (List Script) (labelled_value (codes "scripts") table_in) place
    scripts behind e in
    let word = labelled_read (List Script) (codes "scripts") table_in line.row scripts line.read in
    let form = table_read word.0 scripts word.2 in
    record {
      form = form.0;
      says = form.1;
      took = subst (λ (row : Row). Took (row ∷ []) place behind) (word.1
          ∙ ap (λ (w : Word). codes "scripts" ∷ w ∷ []) form.2) line.took;
    }

-- the line of a schedule, with this Data as its entries
record EntriesRead (number : ℕ) (schedule : Schedule) (place behind : Place) : Type 0 where
  pub form : Data
  pub says : entries_of form ≡ Ok schedule.entries
  pub took : Took (entries_row number schedule form ∷ []) place behind

schedule_back : (number : ℕ) (place : Place) (schedule : Schedule) (behind : Place)
    → line_as (schedule_from number) place ≡ Ok (schedule, behind)
    → EntriesRead number schedule place behind
schedule_back number place schedule behind e =
    let line = line_read Schedule (schedule_from number) place schedule behind e in
    let form = schedule_read number line.row schedule line.read in
    record {
      form = form.0;
      says = form.1;
      took = subst
          (λ (row : Row). Took (row ∷ []) place behind) form.2 line.took;
    }

-- the lines of all schedules
record SchedulesRead (schedules : Schedules) (place behind : Place) : Type 0 where
  pub first : Data
  pub second : Data
  pub third : Data
  pub fourth : Data
  pub first_says : entries_of first ≡ Ok schedules.first.entries
  pub second_says : entries_of second ≡ Ok schedules.second.entries
  pub third_says : entries_of third ≡ Ok schedules.third.entries
  pub fourth_says : entries_of fourth ≡ Ok schedules.fourth.entries
  pub took : Took (entries_row 0 schedules.first first ∷ entries_row 1 schedules.second second
      ∷ entries_row 2 schedules.third third ∷ entries_row 3 schedules.fourth fourth
      ∷ []) place behind

schedules_back : (place : Place) (schedules : Schedules) (behind : Place) → schedules_from place
    ≡ Ok (schedules, behind) → SchedulesRead schedules place behind
unfolding schedules_from
schedules_back place schedules behind e =
    let first = bind_ok (line_as (schedule_from 0) place) _ (schedules, behind) e in
    let second = bind_ok (line_as (schedule_from 1) first.0.1) _ (schedules, behind) first.2 in
    let third = bind_ok (line_as (schedule_from 2) second.0.1) _ (schedules, behind) second.2 in
    let fourth = bind_ok (line_as (schedule_from 3) third.0.1) _ (schedules, behind) third.2 in
    let one = schedule_back 0 place first.0.0 first.0.1 first.1 in
    let two = schedule_back 1 first.0.1 second.0.0 second.0.1 second.1 in
    let three = schedule_back 2 second.0.1 third.0.0 third.0.1 third.1 in
    let four = schedule_back 3 third.0.1 fourth.0.0 fourth.0.1 fourth.1 in
    let made : Schedules = record {
      first = first.0.0;
      second = second.0.0;
      third = third.0.0;
      fourth = fourth.0.0;
    } in
    carried Schedules (λ read at. SchedulesRead read place at) made schedules fourth.0.1 behind
    fourth.2 (record {
      first = one.form;
      second = two.form;
      third = three.form;
      fourth = four.form;
      first_says = one.says;
      second_says = two.says;
      third_says = three.says;
      fourth_says = four.says;
      took = then _ _ place first.0.1 fourth.0.1 one.took
          (then _ _ first.0.1 second.0.1 fourth.0.1 two.took
          (then _ _ second.0.1 third.0.1 fourth.0.1 three.took four.took));
    })

-- ---- all of it

-- the lines of the device name, the state and the mode
abbrev switch_rows : List ℕ → ControlState → ControlMode → List Row
switch_rows device state mode = (codes "device" ∷ encode_upper device ∷ [])
    ∷ number_row (codes "state") (state_number state) ∷ number_row (codes "mode") (mode_number mode)
    ∷ []

same_rows : (device other : List ℕ) (state other_state : ControlState)
    (mode other_mode : ControlMode) → device ≡ other → state ≡ other_state → mode ≡ other_mode
    → switch_rows device state mode ≡ switch_rows other other_state other_mode
same_rows device other state other_state mode other_mode is_device is_state is_mode =
    rw (is_device, is_state, is_mode) refl

-- the lines after these
abbrev rest_rows : Opening → Forms → List Row
rest_rows o forms =
    (value_row Import o.import ∷ (codes "now" ∷ moment_word o.moment ∷ [])
    ∷ (limiter_rows Import o.import ++ (value_row Export o.export
    ∷ limiter_rows Export o.export)))
    ++ (codes "scripts" ∷ data_word forms.table ∷ []) ∷ entries_row 0 o.schedules.first forms.first
    ∷ entries_row 1 o.schedules.second forms.second
    ∷ entries_row 2 o.schedules.third forms.third
    ∷ entries_row 3 o.schedules.fourth forms.fourth ∷ []

-- an opening that was read from the lines after that of the mode, and the values of type
-- Data in these lines
record RestRead (device : List ℕ) (state : ControlState) (mode : ControlMode) (o : Opening)
    (place behind : Place) : Type 0 where
  pub device_is : device ≡ o.device
  pub state_is : state ≡ o.state
  pub mode_is : mode ≡ o.mode
  pub forms : Forms
  pub say : AreFormsOf o forms
  pub took : Took (rest_rows o forms) place behind

rest_back : (device : List ℕ) (state : ControlState) (mode : ControlMode) (place : Place)
    (o : Opening) (behind : Place) → opening_with Two device state mode place ≡ Ok (o, behind)
    → RestRead device state mode o place behind
unfolding opening_with
rest_back device state mode place o behind e =
    let last = bind_ok (value_line Import place) _ (o, behind) e in
    let moment = bind_ok (line_as (labelled_value (codes "now") moment_in) last.0.1) _
    (o, behind) last.2 in
    let import = bind_ok (limiter_from Import last.0.0 moment.0.1) _ (o, behind) moment.2 in
    let export = bind_ok (export_from Two import.0.1) _ (o, behind) import.2 in
    let scripts = bind_ok (line_as (labelled_value (codes "scripts") table_in) export.0.1) _
    (o, behind) export.2 in
    let schedules = bind_ok (schedules_from scripts.0.1) _ (o, behind) scripts.2 in
    let limiter = limiter_back Import last.0.0 moment.0.1 import.0.0 import.0.1 import.1 in
    let table = table_back export.0.1 scripts.0.0 scripts.0.1 scripts.1 in
    let entries = schedules_back scripts.0.1 schedules.0.0 schedules.0.1 schedules.1 in
    let made : Opening = record {
      device = device;
      state = state;
      mode = mode;
      moment = moment.0.0;
      import = import.0.0;
      export = export.0.0;
      scripts = scripts.0.0;
      schedules =
          schedules.0.0;
    } in
    carried Opening (λ read at. RestRead device state mode read place at) made o schedules.0.1
    behind schedules.2 (record {
      device_is = refl;
      state_is = refl;
      mode_is = refl;
      forms = record {
        table = table.form;
        first = entries.first;
        second = entries.second;
        third = entries.third;
        fourth = entries.fourth;
      };
      say = record {
        table = table.says;
        first = entries.first_says;
        second = entries.second_says;
        third = entries.third_says;
        fourth = entries.fourth_says;
      };
      took =
          then _ _ place last.0.1 schedules.0.1
          (subst (λ (n : ℕ). Took (number_row (label Import (codes "value")) n ∷ []) place last.0.1)
          limiter.1 (value_back Import (codes "value") place last.0.0 last.0.1 last.1)) (
          then _ _ last.0.1 moment.0.1 schedules.0.1
          (line_back _ (labelled_value (codes "now") moment_in) (λ m. codes "now"
          ∷ moment_word m ∷ []) moment_line_back last.0.1 moment.0.0 moment.0.1 moment.1) (
          then _ _ moment.0.1 import.0.1 schedules.0.1 limiter.0 (
          then _ _ import.0.1 export.0.1 schedules.0.1
          (export_back import.0.1 export.0.0 export.0.1 export.1) (
          then _ _ export.0.1 scripts.0.1 schedules.0.1 table.took entries.took))));
    })

-- all lines after that of the version
abbrev rows_behind : Opening → Forms → List Row
rows_behind o forms = switch_rows o.device o.state o.mode ++ rest_rows o forms

-- an opening that was read, and the values of type Data in its lines
record OpeningRead (o : Opening) (place behind : Place) : Type 0 where
  pub forms : Forms
  pub say : AreFormsOf o forms
  pub took : Took (rows_behind o forms) place behind

inner_back : (place : Place) (o : Opening) (behind : Place) → opening_in Two place ≡ Ok (o, behind)
    → OpeningRead o place behind
unfolding opening_in
inner_back place o behind e =
    let device = bind_ok (line_as (labelled_value (codes "device") device_in) place) _
    (o, behind) e in
    let state = bind_ok (line_as (labelled_value (codes "state") state_in) device.0.1) _
    (o, behind) device.2 in
    let mode = bind_ok (line_as (labelled_value (codes "mode") (mode_in state.0.0)) state.0.1) _
    (o, behind) state.2 in
    let rest = rest_back device.0.0 state.0.0 mode.0.0 mode.0.1 o behind mode.2 in
    let switch =
    then _ _ place device.0.1 mode.0.1 (line_back _ (labelled_value (codes "device") device_in)
    (λ d. codes "device" ∷ encode_upper d ∷ []) device_line_back place device.0.0
    device.0.1 device.1) (
    then _ _ device.0.1 state.0.1 mode.0.1 (line_back _ (labelled_value (codes "state") state_in)
    (λ s. number_row (codes "state") (state_number s)) state_line_back device.0.1 state.0.0
    state.0.1 state.1)
    (line_back _ (labelled_value (codes "mode") (mode_in state.0.0))
    (λ m. number_row (codes "mode") (mode_number m)) (mode_line_back state.0.0) state.0.1
    mode.0.0 mode.0.1 mode.1)) in
    let same = same_rows device.0.0 o.device state.0.0 o.state mode.0.0 o.mode rest.device_is
    rest.state_is rest.mode_is in
    record {
      forms = rest.forms;
      say = rest.say;
      took = then _ _ place mode.0.1 behind (subst (λ (rows : List Row). Took rows place mode.0.1)
          same switch) rest.took;
    }

-- all lines
abbrev all_rows : Opening → Forms → List Row
all_rows o forms = number_row (codes "RELAYTRACE") 2 ∷ rows_behind o forms

all_back : (place : Place) (o : Opening) (behind : Place) → opening_from place
    ≡ Ok ((Two, o), behind) → (forms : Forms) × AreFormsOf o forms
    × Took (all_rows o forms) place behind
unfolding opening_from
all_back place o behind e =
    let version = bind_ok (line_as version_from place) _ ((Two, o), behind) e in
    let opening = bind_ok (opening_in version.0.0 version.0.1) _ ((Two, o), behind) version.2 in
    let is = ok_is ((version.0.0, opening.0.0), opening.0.1) ((Two, o), behind) opening.2 in
    let two : version.0.0 ≡ Two = ap (λ (p : (Version × Opening) × Place). p.0.0) is in
    let rest : opening.0 ≡ (o, behind) = ap (λ (p : (Version × Opening) × Place). (p.0.1, p.1)) is
    in
    let inner = inner_back version.0.1 o behind (
    ap (λ (v : Version). opening_in v version.0.1) (sym two) ∙ opening.1
    ∙ ap (λ (p : Opening × Place). Ok p) rest) in (
      inner.forms,
      inner.say,
      then _ _ place version.0.1 behind
          (subst (λ (v : Version). Took (number_row (codes "RELAYTRACE") (version_number v)
          ∷ []) place version.0.1) two
          (line_back Version version_from (λ v. number_row (codes "RELAYTRACE") (version_number v))
          version_back place version.0.0 version.0.1 version.1))
          inner.took,
    )

-- the lines of an opening are the same 25 lines followed by the same five
rows_are : (o : Opening) (forms : Forms) → all_rows o forms ≡ rows_with o forms
unfolding opening_rows rows_with
rows_are o forms = refl

-- ---- the law

pub opening_back : (place : Place) (o : Opening) (behind : Place) → opening_from place
    ≡ Ok ((Two, o), behind)
    → (forms : Forms) × AreFormsOf o forms × (place.rows ≡ rows_with o forms ++ behind.rows)
opening_back place o behind e =
    let read = all_back place o behind e in (
      read.0,
      read.1,
      read.2.lines ∙ ap (λ (rows : List Row). rows ++ behind.rows)
          (rows_are o read.0),
    )

-- an opening has thirty lines
pub opening_lines : (place : Place) (o : Opening) (behind : Place) → opening_from place
    ≡ Ok ((Two, o), behind) → (behind.number ≡ place.number + 30) × (behind.unended ≡ place.unended)
opening_lines place o behind e =
    let read = all_back place o behind e in
    (read.2.number, read.2.unended)

-- with the values of type Data that are written, the lines are those that are written
pub written_rows : (o : Opening) → rows_with o (written_forms o) ≡ opening_rows o
unfolding opening_rows rows_with
written_rows o = refl
