-- Whether a slot holds a meter.
use Rattle.std.specs.Prelude.{Bool, true, false, Option, Some, None}
use Rattle.std.specs.Prelude.{Option}

-- whether a slot holds a meter
abbrev pub is_held : {X : Type 0} → Option X → Bool
is_held None = false
is_held (Some x) = true
