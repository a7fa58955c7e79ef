-- The changes of a meter's supply output.
--     is_on          whether the supply of a meter is on
--     change         1 if the output is another one than before
--     changes_in     the number of changes in a run
--     switches_in    the number of changes by events, from a world
use Rattle.std.specs.Prelude.{ℕ, ◌+◌, Bool, true, false, List, [], ◌∷◌}
use Rattle.disconnect_control.specs.declared.state.ControlState.TheVariants.{Connected}
use Rattle.disconnect_control.specs.Transitions.{is_state}
use Rattle.relay_core.specs.Runs.{lines_of}
use Rattle.relay_core.specs.World.{World}
use Rattle.relay_events.specs.declared.event.Event.{Event}
use Rattle.relay_events.specs.declared.reply.Line.{Line}

-- whether the supply is on
abbrev pub is_on : World → Bool
is_on w = is_state w.control.state Connected

-- 1 if the output is another one than before, else 0
abbrev pub change : (before now : Bool) → ℕ
change true true = 0
change false false = 0
change _ now = 1

-- the number of changes in a run, whose lines have the output after each event
abbrev pub changes_in : (before : Bool) → List Line → ℕ
changes_in before [] = 0
changes_in before (line ∷ run) = change before line.output + changes_in line.output run

-- the number of changes by these events, from a world
abbrev pub switches_in : World → List Event → ℕ
switches_in w events = changes_in (is_on w) (lines_of events w)
