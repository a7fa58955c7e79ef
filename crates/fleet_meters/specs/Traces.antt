-- The traces that meters can continue from.
use Rattle.std.specs.Prelude.{ℕ, List, IsOk}
use Rattle.trace_player.specs.Traces.{trace_of}

-- whether a text can be read as a trace
abbrev pub IsTrace : List ℕ → Type 0
IsTrace text = IsOk (trace_of text)
