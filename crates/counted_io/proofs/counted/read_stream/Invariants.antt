-- An interrupted read has read no bytes.
use Rattle.std.proofs.Common.{◌≡◌, length}
use Rattle.std.specs.Io.KnownBytes.{Keeps}
use Rattle.counted_io.proofs.counted.read_stream.Given as goal

abbrev pub invariant-tries : goal.invariant-tries
invariant-tries g l = record {
  buffer : length l.buffer ≡ length l.initial.buffer;
  unread : Keeps (g.T.Read.remaining l.initial.stream) (g.T.Read.remaining l.stream);
}
