-- An opening that is written is read back, line by line.
use Rattle.std.proofs.Common.{◌≡◌, ℕ, suc, ◌≤◌, List, [], ◌∷◌, ◌++◌, Ok, refl, arith, codes}
use Rattle.hex.specs.Hex.{encode_upper}
use Rattle.cosem_names.specs.declared.objects.Which.{Which}
use Rattle.cosem_names.specs.declared.objects.Which.TheVariants.{Import, Export}
use Rattle.disconnect_control.specs.Transitions.{mode_number, state_number}
use Rattle.relay_core.specs.Opening.{IsFitLimiterOpening}
use Rattle.relay_core.specs.declared.opening.LimiterOpening.{LimiterOpening}
use Rattle.relay_core.specs.declared.opening.Opening.{Opening}
use Rattle.relay_core.specs.declared.schedules.Schedules.{Schedules}
use Rattle.script_steps.specs.Writing.{data_of}
use Rattle.trace_openings.proofs.OpeningFieldLaws.{version_again, device_line_again, state_line_again, mode_line_again, moment_line_again, value_line_again, table_line_again, schedule_again}
use Rattle.trace_openings.proofs.LimiterLines.{profile_line, groups_line, actions_line, over_line, under_line, FitRunsMean, over_passes, under_passes}
use Rattle.trace_openings.specs.OpeningFields.{label, version_from, device_in, state_in, mode_in, moment_in, table_in, profile_from, groups_from, actions_from, over_from, under_from, schedule_from}
use Rattle.trace_words.specs.Labels.{labelled_value, number_row}
use Rattle.trace_openings.specs.OpeningReading.{settings_from, limiter_from, export_from, schedules_from, opening_with, opening_in, opening_from}
use Rattle.trace_openings.specs.OpeningRows.{moment_word, actions_row, count_row, profile_row, groups_row, value_row, limiter_rows, schedule_row, schedule_rows, opening_rows}
use Rattle.trace_openings.specs.OpeningTraced.{IsTracedLimiter, IsTracedSchedule, IsWritable}
use Rattle.trace_words.specs.Places.{line_as}
use Rattle.trace_words.specs.Reading.{value_in}
use Rattle.trace_words.specs.Rows.{Word, Row}
use Rattle.trace_words.specs.Writing.{data_word}
use Rattle.trace_words.specs.declared.version.Version.TheVariants.{Two}
use Rattle.trace_words.proofs.PlaceLemmas.{place, line_again}

-- ---- places

abbrev two_on : ℕ → ℕ
two_on number = suc (suc number)

abbrev three_on : ℕ → ℕ
three_on number = suc (two_on number)

abbrev four_on : ℕ → ℕ
four_on number = suc (three_on number)

-- ---- a limiter

number_line_again : (which : Which) (name : Word) (value number : ℕ) (rows : List Row)
    (unended : List ℕ) → value ≤ 4294967295
    → line_as (labelled_value (label which name) value_in)
    (place number (number_row (label which name) value ∷ rows) unended)
    ≡ Ok (value, place (suc number) rows unended)
number_line_again which name value number rows unended le =
    line_again (labelled_value (label which name) value_in) (number_row (label which name) value)
    value number rows unended (value_line_again (label which name) value le)

abbrev nine_on : ℕ → ℕ
nine_on number = two_on (three_on (four_on number))

limiter_again : FitRunsMean → (which : Which) (o : LimiterOpening) (number : ℕ) (rows : List Row)
    (unended : List ℕ) → IsFitLimiterOpening o → IsTracedLimiter o
    → limiter_from which o.value (place number (limiter_rows which o ++ rows) unended)
    ≡ Ok (o, place (nine_on number) rows unended)
unfolding limiter_from settings_from
limiter_again mean which o number rows unended fit traced =
    let under_row = count_row (label which (codes "under")) o.under in
    let from_over : List Row = count_row (label which (codes "over")) o.over ∷ under_row ∷ rows in
    let from_actions : List Row = actions_row which o.settings.actions ∷ from_over in
    let from_groups : List Row = groups_row which o.settings.groups ∷ from_actions in
    let from_profile : List Row = profile_row which o.settings.profile ∷ from_groups in
    let from_min_under : List Row = number_row (label which (codes "minunder"))
    o.settings.min_under_threshold_duration ∷ from_profile in
    let from_min_over : List Row = number_row (label which (codes "minover"))
    o.settings.min_over_threshold_duration ∷ from_min_under in
    let normal = number_line_again which (codes "normal") o.settings.threshold_normal number
    (number_row (label which (codes "emergency")) o.settings.threshold_emergency
    ∷ from_min_over) unended traced.threshold_normal in
    let emergency = number_line_again which (codes "emergency") o.settings.threshold_emergency
    (suc number) from_min_over unended traced.threshold_emergency in
    let min_over = number_line_again which (codes "minover") o.settings.min_over_threshold_duration
    (two_on number) from_min_under unended traced.min_over_threshold_duration in
    let min_under = number_line_again which (codes "minunder")
    o.settings.min_under_threshold_duration (three_on number) from_profile unended
    traced.min_under_threshold_duration in
    let profile = line_again (profile_from which) (profile_row which o.settings.profile)
    o.settings.profile (four_on number) from_groups unended
    ((profile_line which).again o.settings.profile (
      traced.profile_id,
      (traced.profile_start, traced.profile_duration),
    )) in
    let groups = line_again (groups_from which) (groups_row which o.settings.groups)
    o.settings.groups (suc (four_on number)) from_actions unended
    ((groups_line which).again o.settings.groups (fit.groups, traced.groups)) in
    let actions = line_again (actions_from which) (actions_row which o.settings.actions)
    o.settings.actions (two_on (four_on number)) from_over unended ((actions_line which).again
    o.settings.actions (traced.over_selector, traced.under_selector)) in
    let over = line_again (over_from which o.value) (count_row (label which (codes "over")) o.over)
    o.over (three_on (four_on number)) (under_row ∷ rows) unended
    ((over_line which o.value).again o.over (over_passes mean o.value o.over o.under fit.runs)) in
    let under = line_again (under_from which o.value o.over) under_row o.under
    (suc (three_on (four_on number))) rows unended
    ((under_line which o.value o.over).again o.under
    (under_passes mean o.value o.over o.under fit.runs)) in
    rw (normal, emergency, min_over, min_under, profile, groups, actions, over, under) refl

export_again : FitRunsMean → (o : LimiterOpening) (number : ℕ) (rows : List Row) (unended : List ℕ)
    → IsFitLimiterOpening o → IsTracedLimiter o
    → export_from Two (place number (value_row Export o ∷ (limiter_rows Export o ++ rows)) unended)
    ≡ Ok (o, place (suc (nine_on number)) rows unended)
unfolding export_from
export_again mean o number rows unended fit traced =
    let last = number_line_again Export (codes "value") o.value number (limiter_rows Export o
    ++ rows) unended traced.value in
    let limiter = limiter_again mean Export o (suc number) rows unended fit traced in
    rw (last, limiter) refl

-- ---- all of it

schedules_again : (schedules : Schedules) (number : ℕ) (rows : List Row) (unended : List ℕ)
    → IsTracedSchedule schedules.first → IsTracedSchedule schedules.second
    → IsTracedSchedule schedules.third → IsTracedSchedule schedules.fourth
    → schedules_from (place number (schedule_rows schedules ++ rows) unended)
    ≡ Ok (schedules, place (four_on number) rows unended)
unfolding schedules_from
schedules_again schedules number rows unended traced_first traced_second traced_third traced_fourth
    =
    let fourth_row = schedule_row 3 schedules.fourth in
    let third_row = schedule_row 2 schedules.third in
    let second_row = schedule_row 1 schedules.second in
    let first = line_again (schedule_from 0) (schedule_row 0 schedules.first) schedules.first number
    (second_row ∷ third_row ∷ fourth_row ∷ rows) unended
    (schedule_again 0 schedules.first (omega arith) traced_first) in
    let second = line_again (schedule_from 1) second_row schedules.second (suc number) (third_row
    ∷ fourth_row ∷ rows) unended (schedule_again 1 schedules.second (omega arith) traced_second)
    in
    let third = line_again (schedule_from 2) third_row schedules.third (two_on number) (fourth_row
    ∷ rows) unended (schedule_again 2 schedules.third (omega arith) traced_third) in
    let fourth = line_again (schedule_from 3) fourth_row schedules.fourth
    (three_on number) rows unended (schedule_again 3 schedules.fourth
    (omega arith) traced_fourth) in
    rw (first, second, third, fourth) refl

-- the lines after that of the version, followed by others
abbrev behind_version : Opening → List Row → List Row
behind_version o rows =
    (codes "device" ∷ encode_upper o.device ∷ [])
    ∷ number_row (codes "state") (state_number o.state)
    ∷ number_row (codes "mode") (mode_number o.mode)
    ∷ value_row Import o.import ∷ (codes "now" ∷ moment_word o.moment ∷ [])
    ∷ (limiter_rows Import o.import ++ (value_row Export o.export
    ∷ (limiter_rows Export o.export
    ++ ((codes "scripts" ∷ data_word (data_of o.scripts) ∷ [])
    ∷ (schedule_rows o.schedules ++ rows)))))

inner_again : FitRunsMean → (o : Opening) (rows : List Row) (unended : List ℕ) → IsWritable o
    → opening_in Two (place 2 (behind_version o rows) unended) ≡ Ok (o, place 31 rows unended)
unfolding opening_in opening_with
inner_again mean o rows unended writable =
    let last_rows : List Row = schedule_rows o.schedules ++ rows in
    let table_rows : List Row = (codes "scripts" ∷ data_word (data_of o.scripts) ∷ [])
    ∷ last_rows in
    let export_rows : List Row = value_row Export o.export
    ∷ (limiter_rows Export o.export ++ table_rows) in
    let import_rows : List Row = limiter_rows Import o.import ++ export_rows in
    let moment_row : Row = codes "now" ∷ moment_word o.moment ∷ [] in
    let last_row = value_row Import o.import in
    let mode_row = number_row (codes "mode") (mode_number o.mode) in
    let state_row = number_row (codes "state") (state_number o.state) in
    let device = line_again (labelled_value (codes "device") device_in) (codes "device"
    ∷ encode_upper o.device ∷ []) o.device 2 (state_row ∷ mode_row ∷ last_row ∷ moment_row
    ∷ import_rows) unended
    (device_line_again o.device writable.fit.device.0 writable.fit.device.1 writable.device) in
    let state = line_again (labelled_value (codes "state") state_in) state_row o.state 3 (mode_row
    ∷ last_row ∷ moment_row ∷ import_rows) unended (state_line_again o.state) in
    let mode = line_again (labelled_value (codes "mode") (mode_in o.state)) mode_row o.mode 4
    (last_row ∷ moment_row ∷ import_rows) unended
    (mode_line_again o.mode o.state writable.fit.control) in
    let last = number_line_again Import (codes "value") o.import.value 5 (moment_row
    ∷ import_rows) unended writable.import.value in
    let moment = line_again (labelled_value (codes "now") moment_in) moment_row o.moment 6
    import_rows unended (moment_line_again o.moment writable.moment) in
    let import = limiter_again mean Import o.import 7 export_rows unended writable.fit.import
    writable.import in
    let export = export_again mean o.export 16 table_rows unended writable.fit.export
    writable.export in
    let scripts = line_again (labelled_value (codes "scripts") table_in) (codes "scripts"
    ∷ data_word (data_of o.scripts) ∷ []) o.scripts 26 last_rows unended
    (table_line_again o.scripts writable.scripts writable.script_numbers) in
    let schedules = schedules_again o.schedules 27 rows unended writable.first writable.second
    writable.third writable.fourth in
    rw (device, state, mode, last, moment, import, export, scripts, schedules) refl

pub opening_again : FitRunsMean → (o : Opening) (rows : List Row) (unended : List ℕ) → IsWritable o
    → opening_from (record { number = 1; rows = opening_rows o ++ rows; unended = unended })
    ≡ Ok ((Two, o), record { number = 31; rows = rows; unended = unended })
unfolding opening_from opening_rows
opening_again mean o rows unended writable =
    let version = line_again version_from (number_row (codes "RELAYTRACE") 2) Two 1
    (behind_version o rows) unended version_again in
    let inner = inner_again mean o rows unended writable in
    rw (version, inner) refl
