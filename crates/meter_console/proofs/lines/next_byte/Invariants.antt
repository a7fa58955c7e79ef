-- A read that was interrupted consumed nothing.
use Rattle.std.proofs.Common.{◌≡◌, length}
use Rattle.std.specs.Io.KnownBytes.{Keeps}
use Rattle.meter_console.proofs.lines.next_byte.Given as goal

abbrev pub invariant-tries : goal.invariant-tries
invariant-tries g l = record {
  buffer : length l.byte ≡ 1;
  unread : Keeps (g.B.Read.remaining l.initial.input) (g.B.Read.remaining l.input);
}
