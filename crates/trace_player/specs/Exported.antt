-- What the trace that a recorder exports prints.
use Rattle.std.specs.Prelude.{◌≡◌, ℕ, ◌-◌, List, length, drop}
use Rattle.relay_core.specs.Runs.{lines_of}
use Rattle.relay_core.specs.World.{World}
use Rattle.relay_recorder.specs.Histories.{Exchange, StandsForHistory, events_of}
use Rattle.relay_recorder.specs.Recording.{Recording}
use Rattle.relay_recorder.specs.declared.trace.Trace.{Trace}
use Rattle.trace_player.specs.Playing.{lines_text, output_of_trace}

-- the lines of a history's run for its last events, those that a recorder keeps
abbrev pub kept_lines : Recording → List Exchange → World → List ℕ
kept_lines r history origin =
    lines_text 1 (drop (length history - length r.events) (lines_of (events_of history) origin))

-- whether a trace prints the end of every history that a recorder represents
abbrev pub PrintsTheEnd : Recording → Trace → Type 0
PrintsTheEnd r trace = (history : List Exchange) (origin : World)
    → StandsForHistory r history origin
    → output_of_trace trace ≡ kept_lines r history origin
