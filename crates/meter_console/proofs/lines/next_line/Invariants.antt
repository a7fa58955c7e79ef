-- The bytes that were read so far have no 0A, and are kept as far as they fit.
use Rattle.std.proofs.Common.{◌≤◌}
use Rattle.std.specs.Prelude.{vec_capacity}
use Rattle.meter_console.proofs.LineLemmas.{Partial}
use Rattle.meter_console.proofs.lines.next_line.Given as goal

abbrev pub invariant-bytes : goal.invariant-bytes
invariant-bytes g l = record {
  room : 8192 ≤ vec_capacity l.line;
  read : Partial (g.B.Read.remaining l.initial.input) (g.B.Read.remaining l.input)
      l.line.items l.is_long;
}
