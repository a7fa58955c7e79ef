-- The lines of an opening consist of words that a line can hold, so its text is read as these
-- lines.
use Rattle.std.proofs.Common.{◌≡◌, ℕ, ◌≤◌, true, List, [], ◌∷◌, ◌++◌, Option, Some, None, refl, arith, decimal, codes}
use Rattle.std.specs.Prelude.{IfSome}
use Rattle.std.specs.List.{list_all}
use Rattle.hex.specs.Hex.{encode_upper}
use Rattle.action_schedule.specs.Kinds.{number_of}
use Rattle.action_schedule.specs.Schedule.{Schedule}
use Rattle.action_schedule.specs.Writing.{entries_data}
use Rattle.cosem_names.specs.declared.objects.Which.{Which}
use Rattle.cosem_names.specs.declared.objects.Which.TheVariants.{Import, Export}
use Rattle.disconnect_control.specs.Transitions.{mode_number, state_number}
use Rattle.disconnect_control.specs.declared.state.ControlState.{ControlState}
use Rattle.disconnect_control.specs.declared.state.ControlState.TheVariants.{Disconnected, Connected, ReadyForReconnection}
use Rattle.relay_core.specs.Opening.{IsFitLimiterOpening}
use Rattle.relay_core.specs.declared.opening.LimiterOpening.{LimiterOpening}
use Rattle.relay_core.specs.declared.opening.Opening.{Opening}
use Rattle.relay_core.specs.declared.schedules.Schedules.{Schedules}
use Rattle.script_steps.specs.Writing.{data_of}
use Rattle.text_lines.proofs.HexadecimalLemmas.{hex_is_word}
use Rattle.text_lines.specs.Lines.{is_row}
use Rattle.trace_words.proofs.WordLaws.{data_is_word, more, number_is_word, number_is_row}
use Rattle.trace_openings.proofs.LimiterLines.{label_is_word, profile_line, groups_line, actions_line, count_line}
use Rattle.trace_openings.proofs.OpeningFieldLaws.{type_small}
use Rattle.trace_openings.proofs.OpeningTables.{mode_small, entries_are_held, scripts_are_held}
use Rattle.trace_openings.specs.OpeningFields.{label}
use Rattle.trace_openings.specs.OpeningRows.{moment_word, value_row, limiter_rows, schedule_row, schedule_rows, head_rows, opening_rows}
use Rattle.trace_openings.specs.OpeningTraced.{IsTracedLimiter, IsTracedSchedule, IsWritable}
use Rattle.trace_words.specs.Rows.{Row}
use Rattle.trace_words.specs.Writing.{data_word}

-- each of the lines consists of words that a line can hold
abbrev AreRows : List Row → Type 0
AreRows rows = list_all is_row rows ≡ true

-- one more line
more_rows : (row : Row) (rows : List Row) → is_row row ≡ true → AreRows rows → AreRows (row ∷ rows)
more_rows row rows is are = rw is are

state_small : (state : ControlState) → state_number state ≤ 2
state_small Disconnected = omega arith
state_small Connected = omega arith
state_small ReadyForReconnection = omega arith

moment_is_row : (moment : Option ℕ) → IfSome moment (λ m. m ≤ 4294967295)
    → is_row (codes "now" ∷ moment_word moment ∷ []) ≡ true
moment_is_row None le = refl
moment_is_row (Some m) le = more (codes "now") (decimal m ∷ []) refl
    (more (decimal m) [] (number_is_word m (omega arith)) refl)

-- ---- a limiter

limiter_are_rows : (which : Which) (o : LimiterOpening) (rows : List Row) → IsFitLimiterOpening o
    → IsTracedLimiter o → AreRows rows → AreRows (limiter_rows which o ++ rows)
limiter_are_rows which o rows fit traced are =
    let normal = number_is_row (label which (codes "normal")) o.settings.threshold_normal
    (label_is_word which (codes "normal") refl) (omega (arith, traced.threshold_normal)) in
    let emergency = number_is_row (label which (codes "emergency")) o.settings.threshold_emergency
    (label_is_word which (codes "emergency") refl) (omega (arith, traced.threshold_emergency))
    in
    let minover = number_is_row (label which (codes "minover"))
    o.settings.min_over_threshold_duration (label_is_word which (codes "minover") refl)
    (omega (arith, traced.min_over_threshold_duration)) in
    let minunder = number_is_row (label which (codes "minunder"))
    o.settings.min_under_threshold_duration (label_is_word which (codes "minunder") refl)
    (omega (arith, traced.min_under_threshold_duration)) in
    let profile = (profile_line which).are_words o.settings.profile
    (traced.profile_id, (traced.profile_start, traced.profile_duration)) in
    let groups = (groups_line which).are_words o.settings.groups (fit.groups, traced.groups) in
    let actions = (actions_line which).are_words o.settings.actions
    (traced.over_selector, traced.under_selector) in
    let over = (count_line which (codes "over") refl (omega arith)).are_words o.over
    (fit.runs.over_fits.within, tt) in
    let under = (count_line which (codes "under") refl (omega arith)).are_words o.under
    (fit.runs.under_fits.within, tt) in
    rw (normal, emergency, minover, minunder, profile, groups, actions, over, under) are

value_is_row : (which : Which) (o : LimiterOpening) → IsTracedLimiter o → is_row (value_row which o)
    ≡ true
value_is_row which o traced = number_is_row (label which (codes "value")) o.value
    (label_is_word which (codes "value") refl) (omega (arith, traced.value))

-- ---- all of it

schedule_is_row : (number : ℕ) (schedule : Schedule) → number ≤ 3 → IsTracedSchedule schedule
    → is_row (schedule_row number schedule) ≡ true
schedule_is_row number schedule le traced =
    let value = data_word (entries_data schedule.entries) in
    let selector : schedule.selector ≤ 42949672950 = omega (arith, traced.selector) in
    let kind : number_of schedule.kind ≤ 42949672950 = omega (arith, type_small schedule.kind) in
    more (codes "schedule") (decimal number ∷ decimal schedule.selector
    ∷ decimal (number_of schedule.kind) ∷ value ∷ []) refl
    (more (decimal number) (decimal schedule.selector ∷ decimal (number_of schedule.kind) ∷ value
    ∷ []) (number_is_word number (omega arith))
    (more (decimal schedule.selector) (decimal (number_of schedule.kind) ∷ value
    ∷ []) (number_is_word schedule.selector selector)
    (more (decimal (number_of schedule.kind)) (value
    ∷ []) (number_is_word (number_of schedule.kind) kind)
    (more value [] (data_is_word (entries_data schedule.entries)
    (entries_are_held schedule.entries traced.entries)) refl))))

schedules_are_rows : (schedules : Schedules) → IsTracedSchedule schedules.first
    → IsTracedSchedule schedules.second → IsTracedSchedule schedules.third
    → IsTracedSchedule schedules.fourth
    → AreRows (schedule_rows schedules)
schedules_are_rows schedules traced_first traced_second traced_third traced_fourth =
    let first = schedule_is_row 0 schedules.first (omega arith) traced_first in
    let second = schedule_is_row 1 schedules.second (omega arith) traced_second in
    let third = schedule_is_row 2 schedules.third (omega arith) traced_third in
    let fourth = schedule_is_row 3 schedules.fourth (omega arith) traced_fourth in
    rw (first, second, third, fourth) refl

head_are_rows : (o : Opening) (rows : List Row) → IsWritable o → AreRows rows
    → AreRows (head_rows o ++ rows)
head_are_rows o rows writable are =
    let version = number_is_row (codes "RELAYTRACE") 2 refl (omega arith) in
    let device = more (codes "device") (encode_upper o.device ∷ []) refl
    (more (encode_upper o.device) [] (hex_is_word o.device
    (omega (arith, writable.fit.device.0)) writable.device) refl) in
    let state = number_is_row (codes "state") (state_number o.state) refl
    (omega (arith, state_small o.state)) in
    let mode = number_is_row (codes "mode") (mode_number o.mode) refl
    (omega (arith, mode_small o.mode)) in
    rw (version, device, state, mode) are

pub opening_are_rows : (o : Opening) → IsWritable o → list_all is_row (opening_rows o) ≡ true
unfolding opening_rows
opening_are_rows o writable =
    let table : is_row (codes "scripts" ∷ data_word (data_of o.scripts) ∷ [])
    ≡ true = more (codes "scripts") (data_word (data_of o.scripts) ∷ []) refl
    (more (data_word (data_of o.scripts)) []
    (data_is_word (data_of o.scripts) (scripts_are_held o.scripts writable.scripts
    writable.script_numbers)) refl) in
    let table_rows : List Row = (codes "scripts" ∷ data_word (data_of o.scripts) ∷ [])
    ∷ schedule_rows o.schedules in
    let last = more_rows (codes "scripts" ∷ data_word (data_of o.scripts)
    ∷ []) (schedule_rows o.schedules) table
    (schedules_are_rows o.schedules writable.first writable.second writable.third
    writable.fourth) in
    let exports = limiter_are_rows Export o.export table_rows writable.fit.export
    writable.export last in
    let export_rows : List Row = value_row Export o.export
    ∷ (limiter_rows Export o.export ++ table_rows) in
    let imports = limiter_are_rows Import o.import export_rows writable.fit.import writable.import
    (more_rows (value_row Export o.export) (limiter_rows Export o.export ++ table_rows)
    (value_is_row Export o.export writable.export) exports) in
    let import_rows : List Row = limiter_rows Import o.import ++ export_rows in
    let moment_row : Row = codes "now" ∷ moment_word o.moment ∷ [] in
    let behind = more_rows moment_row import_rows (moment_is_row o.moment writable.moment) imports
    in
    head_are_rows o (value_row Import o.import ∷ moment_row ∷ import_rows) writable
    (more_rows (value_row Import o.import) (moment_row ∷ import_rows)
    (value_is_row Import o.import writable.import) behind)
