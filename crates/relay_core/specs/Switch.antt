-- Triggers of the supply switch (IEC 62056-6-2, class 70, states and transitions). That a limiter's
-- runs end when the switch enters Connected is this meter's own rule.
use Rattle.std.specs.Prelude.{Bool, not, ◌∷◌, ◌&&◌, if◌then◌else◌}
use Rattle.disconnect_control.specs.declared.state.ControlState.TheVariants.{Connected}
use Rattle.disconnect_control.specs.declared.state.Trigger.{Trigger}
use Rattle.disconnect_control.specs.Control.{Control, control_after}
use Rattle.disconnect_control.specs.Transitions.{is_state, result_of}
use Rattle.limiter_core.specs.Rows.{Entry}
use Rattle.relay_core.specs.World.{World, LimiterState, Outcome}

-- a limiter after an entry into Connected
abbrev pub with_entry : LimiterState → LimiterState
with_entry m = record m { rows = Entry ∷ m.rows }

-- whether the switch has entered Connected from another state
abbrev pub enters : Control → Control → Bool
enters before after = not (is_state before.state Connected) && is_state after.state Connected

-- the world after a change of the switch that was `before`: if it entered Connected, both limiters
-- have the entry as their newest row
unfoldable pub with_entries_since : Control → World → World
with_entries_since before w =
    if enters before w.control
    then record w { import = with_entry w.import; export = with_entry w.export } else w

-- the world with its switch changed
abbrev pub with_control : Control → World → World
with_control control w = with_entries_since w.control (record w { control = control })

-- the effect of a trigger on the supply switch, with the result code of its transition
unfoldable pub at_trigger : Trigger → World → Outcome
at_trigger trigger w = record {
  world = with_control (control_after trigger w.control) w;
  code = result_of w.control.mode trigger w.control.state;
}
