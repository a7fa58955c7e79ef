-- Bounds on the length of the lines of an opening.
use Rattle.std.proofs.Common.{ℕ, ◌+◌, ◌≤◌, List, [], ◌∷◌, ◌++◌, codes, decimal, length, refl, Option, Some, None, IfSome, arith}
use Rattle.hex.specs.Hex.{encode_upper}
use Rattle.action_schedule.specs.Kinds.{number_of}
use Rattle.action_schedule.specs.Schedule.{Schedule}
use Rattle.action_schedule.specs.Writing.{entries_data}
use Rattle.action_schedule.specs.declared.kind.ScheduleType.{ScheduleType}
use Rattle.action_schedule.specs.declared.kind.ScheduleType.TheVariants.{Type1, Type2, Type3, Type4, Type5}
use Rattle.cosem_names.specs.declared.objects.Which.{Which}
use Rattle.cosem_names.specs.declared.objects.Which.TheVariants.{Import, Export}
use Rattle.disconnect_control.specs.Transitions.{state_number, mode_number}
use Rattle.disconnect_control.specs.declared.state.ControlState.{ControlState}
use Rattle.disconnect_control.specs.declared.state.ControlState.TheVariants.{Disconnected, Connected, ReadyForReconnection}
use Rattle.relay_core.specs.Opening.{IsFitLimiterOpening}
use Rattle.relay_core.specs.declared.opening.LimiterOpening.{LimiterOpening}
use Rattle.relay_core.specs.declared.opening.Opening.{Opening}
use Rattle.script_steps.specs.Writing.{data_of}
use Rattle.trace_openings.proofs.LimiterLines.{named, profile_line, groups_line, actions_line, count_line}
use Rattle.trace_openings.proofs.OpeningTables.{entries_are_held, mode_small, scripts_are_held}
use Rattle.trace_openings.specs.OpeningFields.{label}
use Rattle.trace_openings.specs.OpeningRows.{head_rows, limiter_rows, moment_word, opening_rows, schedule_row, schedule_rows, value_row}
use Rattle.trace_openings.specs.OpeningTraced.{IsTracedLimiter, IsTracedSchedule, IsWritable}
use Rattle.trace_words.specs.Rows.{Word, Row}
use Rattle.trace_words.specs.Writing.{data_word}
use Rattle.trace_words.proofs.ShortRows.{AreShort, IsShort, both_short, bytes_short, data_short, no_words, number_row_short, number_short, word_on, words_in}

-- ---- lines

-- a line of a first word and one short word
word_row_short : (name word : Word) (long : ℕ) → length name ≤ 20 → length word ≤ long
    → long ≤ 16384 → IsShort (name ∷ word ∷ [])
word_row_short name word long short le most =
    words_in (1 + 20 + (1 + long + 0)) 20000 (name ∷ word
    ∷ []) (word_on 20 (1 + long + 0) name (word ∷ []) short
    (word_on long 0 word [] le no_words)) (omega (arith, most))

limiter_short : (which : Which) (o : LimiterOpening) → IsFitLimiterOpening o → IsTracedLimiter o
    → AreShort (limiter_rows which o)
limiter_short which o fit traced =
    let settings = o.settings in (
      number_row_short (label which (codes "normal")) settings.threshold_normal
          (named which (codes "normal") (omega arith)) traced.threshold_normal,
      (
        number_row_short (label which (codes "emergency")) settings.threshold_emergency
            (named which (codes "emergency") (omega arith)) traced.threshold_emergency,
        (
          number_row_short (label which (codes "minover")) settings.min_over_threshold_duration
              (named which (codes "minover") (omega arith)) traced.min_over_threshold_duration,
          (
            number_row_short (label which (codes "minunder")) settings.min_under_threshold_duration
                (named which (codes "minunder") (omega arith)) traced.min_under_threshold_duration,
            (
              (profile_line which).short settings.profile
                  (traced.profile_id, (traced.profile_start, traced.profile_duration)),
              (
                (groups_line which).short settings.groups (fit.groups, traced.groups),
                (
                  (actions_line which).short settings.actions
                      (traced.over_selector, traced.under_selector),
                  (
                    (count_line which (codes "over") refl (omega arith)).short o.over
                        (fit.runs.over_fits.within, tt),
                    (
                      (count_line which (codes "under") refl (omega arith)).short o.under
                          (fit.runs.under_fits.within, tt),
                      tt,
                    ),
                  ),
                ),
              ),
            ),
          ),
        ),
      ),
    )

-- ---- the other lines

state_small : (state : ControlState) → state_number state ≤ 4294967295
state_small Disconnected = omega arith
state_small Connected = omega arith
state_small ReadyForReconnection = omega arith

kind_short : (kind : ScheduleType) → length (decimal (number_of kind)) ≤ 10
kind_short Type1 = number_short 1 (omega arith)
kind_short Type2 = number_short 2 (omega arith)
kind_short Type3 = number_short 3 (omega arith)
kind_short Type4 = number_short 4 (omega arith)
kind_short Type5 = number_short 5 (omega arith)

moment_short : (moment : Option ℕ) → IfSome moment (λ m. m ≤ 4294967295)
    → length (moment_word moment) ≤ 10
moment_short None fits = omega arith
moment_short (Some m) fits = number_short m fits

schedule_short : (number : ℕ) (schedule : Schedule) → number ≤ 3 → IsTracedSchedule schedule
    → IsShort (schedule_row number schedule)
schedule_short number schedule few traced =
    let entries = data_word (entries_data schedule.entries) in
    words_in (1 + 20 + (1 + 10 + (1 + 10 + (1 + 10 + (1 + 16384 + 0))))) 20000
    (schedule_row number schedule)
    (word_on 20 (1 + 10 + (1 + 10 + (1 + 10 + (1 + 16384 + 0)))) (codes "schedule") _ (omega arith)
    (word_on 10 (1 + 10 + (1 + 10 + (1 + 16384 + 0))) (decimal number) _
    (number_short number (omega (arith, few)))
    (word_on 10 (1 + 10 + (1 + 16384 + 0)) (decimal schedule.selector) _
    (number_short schedule.selector (omega (arith, traced.selector)))
    (word_on 10 (1 + 16384 + 0) (decimal (number_of schedule.kind)) _ (kind_short schedule.kind)
    (word_on 16384 0 entries [] (data_short (entries_data schedule.entries)
    (entries_are_held schedule.entries traced.entries)) no_words))))) (omega arith)

-- the line of the script table and those of the schedules
abbrev table_rows : Opening → List Row
table_rows o = (codes "scripts" ∷ data_word (data_of o.scripts) ∷ []) ∷ schedule_rows o.schedules

tables_short : (o : Opening) → IsWritable o → AreShort (table_rows o)
tables_short o is = (
  word_row_short (codes "scripts") (data_word (data_of o.scripts)) 16384 (omega arith)
      (data_short (data_of o.scripts) (scripts_are_held o.scripts is.scripts is.script_numbers))
      (omega arith),
  (
    schedule_short 0 o.schedules.first (omega arith) is.first,
    (
      schedule_short 1 o.schedules.second (omega arith) is.second,
      (
        schedule_short 2 o.schedules.third (omega arith) is.third,
        (schedule_short 3 o.schedules.fourth (omega arith) is.fourth, tt),
      ),
    ),
  ),
)

-- the lines from that of the export limiter's last sample on
abbrev export_rows : Opening → List Row
export_rows o = value_row Export o.export ∷ (limiter_rows Export o.export ++ table_rows o)

exports_short : (o : Opening) → IsWritable o → AreShort (export_rows o)
exports_short o is = (
  number_row_short (label Export (codes "value")) o.export.value (omega arith) is.export.value,
  both_short (limiter_rows Export o.export) (table_rows o)
      (limiter_short Export o.export is.fit.export is.export) (tables_short o is),
)

-- the lines before those of the import limiter's settings
abbrev first_rows : Opening → List Row
first_rows o = head_rows o ++ value_row Import o.import ∷ (codes "now" ∷ moment_word o.moment ∷ [])
    ∷ []

firsts_short : (o : Opening) → IsWritable o → AreShort (first_rows o)
firsts_short o is = (
  number_row_short (codes "RELAYTRACE") 2 (omega arith) (omega arith),
  (
    word_row_short (codes "device") (encode_upper o.device) 32 (omega arith)
        (bytes_short o.device 16 is.fit.device.1) (omega arith),
    (
      number_row_short (codes "state") (state_number o.state) (omega arith) (state_small o.state),
      (
        number_row_short (codes "mode") (mode_number o.mode) (omega arith)
            (omega (arith, mode_small o.mode)),
        (
          number_row_short (label Import (codes "value")) o.import.value
              (omega arith) is.import.value,
          (
            word_row_short (codes "now") (moment_word o.moment) 10 (omega arith)
                (moment_short o.moment is.moment) (omega arith),
            tt,
          ),
        ),
      ),
    ),
  ),
)

pub opening_short : (o : Opening) → IsWritable o → AreShort (opening_rows o)
unfolding opening_rows
opening_short o is =
    both_short (first_rows o) (limiter_rows Import o.import ++ export_rows o) (firsts_short o is)
    (both_short (limiter_rows Import o.import) (export_rows o)
    (limiter_short Import o.import is.fit.import is.import) (exports_short o is))
