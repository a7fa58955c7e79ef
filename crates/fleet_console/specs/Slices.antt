-- The slices in which a command reaches the meters of a range.
--     slice_size      the maximum number of meters of a slice
--     first_slice     the first meters of a range
--     after_slice     the meters after these
--     Underway        a command of which a slice is next
--     underway_at_start, underway_after
--                     a command before its first slice, and before the slice after this one
--     has_more        a fleet has meters after this slice
use Rattle.std.specs.Prelude.{ℕ, ◌+◌, ◌-◌, nat_le, if◌then◌else◌, Bool, false, Option, Some, None}
use Rattle.fleet_console.specs.declared.command.Command.{Command}
use Rattle.fleet_console.specs.declared.command.Command.TheVariants.{Give, State, Trace, Count}
use Rattle.fleet_console.specs.declared.meters.Meters.{Meters}

-- the maximum number of meters of a slice
abbrev pub slice_size : ℕ
slice_size = 1000

-- the first meters of a range, at most those of a slice
abbrev pub first_slice : Meters → Meters
first_slice meters = if nat_le (meters.first + slice_size) meters.last
    then record { first = meters.first; last = meters.first + slice_size - 1 } else meters

-- the meters of a range after its first slice, if there are any
abbrev pub after_slice : Meters → Option Meters
after_slice meters = if nat_le (meters.first + slice_size) meters.last
    then Some (record { first = meters.first + slice_size; last = meters.last }) else None

-- A command of a line that is being carried out: the number of the line, counted from 1; the
-- command for the next slice of its meters; the meters after this slice; and the first meter of the
-- line.
pub record Underway : Type 0 where
  pub line : ℕ
  pub command : Command
  pub rest : Option Meters
  pub first : ℕ

-- the command of a line before its first slice
abbrev pub underway_at_start : ℕ → Command → Underway
underway_at_start line (Give meters event) = record {
  line = line;
  command = Give (first_slice meters) event;
  rest = after_slice meters;
  first = meters.first;
}
underway_at_start line (State meters) = record {
  line = line;
  command = State (first_slice meters);
  rest = after_slice meters;
  first = meters.first;
}
underway_at_start line (Trace number path) = record {
  line = line;
  command = Trace number path;
  rest = None;
  first = number;
}
underway_at_start line (Count state) = record {
  line = line;
  command = Count state;
  rest = None;
  first = 0;
}

-- a command for these meters, if it has a range
abbrev pub command_for : Meters → Command → Command
command_for meters (Give others event) = Give meters event
command_for meters (State others) = State meters
command_for meters (Trace number path) = Trace number path
command_for meters (Count state) = Count state

-- a command before the slice after this one; unchanged if there is none
abbrev pub underway_after : Underway → Option Meters → Underway
underway_after u None = u
underway_after u (Some meters) = record {
  line = u.line;
  command = command_for (first_slice meters) u.command;
  rest = after_slice meters;
  first = u.first;
}

-- whether a fleet with this many meters has one of the meters after a slice
abbrev pub has_more : Option Meters → ℕ → Bool
has_more None total = false
has_more (Some meters) total = nat_le meters.first total
