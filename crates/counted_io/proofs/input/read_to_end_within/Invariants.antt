-- The bytes are those that were read, and each read returned at least one byte.
use Rattle.std.proofs.Common.{◌≡◌, ◌≤◌, length}
use Rattle.std.specs.Io.KnownBytes.{Consumes}
use Rattle.counted_io.proofs.input.read_to_end_within.Given as goal

abbrev pub invariant-pieces : goal.invariant-pieces
invariant-pieces g l = record {
  read : Consumes (g.R.Reader.remaining l.initial.reader) (g.R.Reader.remaining l.reader)
      l.bytes.items;
  enough : l.counter ≤ length l.bytes.items;
  within : length l.bytes.items ≤ l.limit;
  readable : g.R.Reader.can_read l.reader;
  even : g.R.Reader.failures l.reader ≡ g.R.Reader.failures l.initial.reader;
  room : length l.buffer ≡ length l.initial.buffer;
}
