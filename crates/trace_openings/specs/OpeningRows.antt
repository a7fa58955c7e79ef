-- The lines that are written for an opening, in version 2.
use Rattle.std.specs.Prelude.{ℕ, codes, decimal, List, [], ◌∷◌, ◌++◌, Option, Some, None}
use Rattle.hex.specs.Hex.{encode_upper}
use Rattle.action_schedule.specs.Schedule.{Schedule}
use Rattle.action_schedule.specs.Kinds.{number_of}
use Rattle.action_schedule.specs.Writing.{entries_data}
use Rattle.cosem_names.specs.declared.objects.Which.{Which}
use Rattle.cosem_names.specs.declared.objects.Which.TheVariants.{Import, Export}
use Rattle.disconnect_control.specs.Transitions.{state_number, mode_number}
use Rattle.limiter_core.specs.declared.count.Count.{Count}
use Rattle.limiter_core.specs.declared.settings.Profile.{Profile}
use Rattle.limiter_core.specs.declared.settings.Settings.{Settings}
use Rattle.relay_core.specs.declared.opening.LimiterOpening.{LimiterOpening}
use Rattle.relay_core.specs.declared.opening.Opening.{Opening}
use Rattle.relay_core.specs.declared.schedules.Schedules.{Schedules}
use Rattle.script_steps.specs.Writing.{data_of}
use Rattle.trace_openings.specs.OpeningFields.{label, profile_part, groups_part, actions_part, count_part}
use Rattle.trace_words.specs.Parts.{labelled_part}
use Rattle.limiter_core.specs.declared.settings.Actions.{Actions}
use Rattle.trace_words.specs.Rows.{Word, Row}
use Rattle.trace_words.specs.Writing.{data_word}
use Rattle.trace_words.specs.Labels.{number_row}

-- the word for the last moment, in seconds since 2000-01-01 00:00:00; `-` if there was none
abbrev pub moment_word : Option ℕ → Word
moment_word None = codes "-"
moment_word (Some moment) = decimal moment

-- the line of a run of a limiter, over or under the threshold, with this label
abbrev pub count_row : Word → Count → Row
count_row name = (labelled_part name count_part).text

-- the line of a limiter's emergency profile
abbrev pub profile_row : Which → Profile → Row
profile_row which = (labelled_part (label which (codes "profile")) profile_part).text

-- the line of a limiter's emergency profile group ids
abbrev pub groups_row : Which → List ℕ → Row
groups_row which = (labelled_part (label which (codes "groups")) groups_part).text

-- the line of the script selectors of a limiter's actions
abbrev pub actions_row : Which → Actions → Row
actions_row which = (labelled_part (label which (codes "actions")) actions_part).text

-- the line of a limiter's last sample
abbrev pub value_row : Which → LimiterOpening → Row
value_row which limiter = number_row (label which (codes "value")) limiter.value

-- the lines of a limiter's settings
abbrev pub settings_rows : Which → Settings → List Row
settings_rows which settings =
    number_row (label which (codes "normal")) settings.threshold_normal
    ∷ number_row (label which (codes "emergency")) settings.threshold_emergency
    ∷ number_row (label which (codes "minover")) settings.min_over_threshold_duration
    ∷ number_row (label which (codes "minunder")) settings.min_under_threshold_duration
    ∷ profile_row which settings.profile
    ∷ groups_row which settings.groups
    ∷ actions_row which settings.actions
    ∷ []

-- a limiter's lines after that of its last sample
abbrev pub limiter_rows : Which → LimiterOpening → List Row
limiter_rows which limiter =
    settings_rows which limiter.settings ++ count_row (label which (codes "over")) limiter.over
    ∷ count_row (label which (codes "under")) limiter.under ∷ []

-- the line of the schedule with this number
abbrev pub schedule_row : ℕ → Schedule → Row
schedule_row number schedule =
    codes "schedule" ∷ decimal number ∷ decimal schedule.selector
    ∷ decimal (number_of schedule.kind) ∷ data_word (entries_data schedule.entries) ∷ []

-- the lines of the four schedules
abbrev pub schedule_rows : Schedules → List Row
schedule_rows schedules =
    schedule_row 0 schedules.first ∷ schedule_row 1 schedules.second
    ∷ schedule_row 2 schedules.third ∷ schedule_row 3 schedules.fourth ∷ []

-- the lines of the version, the device name and the switch
abbrev pub head_rows : Opening → List Row
head_rows opening =
    number_row (codes "RELAYTRACE") 2
    ∷ (codes "device" ∷ encode_upper opening.device ∷ [])
    ∷ number_row (codes "state") (state_number opening.state)
    ∷ number_row (codes "mode") (mode_number opening.mode)
    ∷ []

-- all lines of an opening
unfoldable pub opening_rows : Opening → List Row
opening_rows opening =
    head_rows opening
    ++ value_row Import opening.import ∷ (codes "now" ∷ moment_word opening.moment ∷ [])
    ∷ limiter_rows Import opening.import
    ++ value_row Export opening.export ∷ limiter_rows Export opening.export
    ++ (codes "scripts" ∷ data_word (data_of opening.scripts) ∷ [])
    ∷ schedule_rows opening.schedules
