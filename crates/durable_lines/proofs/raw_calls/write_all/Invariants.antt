-- The bytes before the rest were written, at least one for each write.
use Rattle.std.proofs.Common.{◌+◌, ◌≤◌, length}
use Rattle.durable_lines.proofs.RawLemmas.{WritesTo}
use Rattle.durable_lines.specs.RawModel.{IsAtEnd}
use Rattle.durable_lines.proofs.raw_calls.write_all.Given as goal

abbrev pub invariant-writes : goal.invariant-writes
invariant-writes g l =
    let model = g.R.RawFile.model in
    record {
      so : WritesTo model l.initial.raw l.raw l.bytes l.rest;
      place : model.acts → IsAtEnd model l.raw;
      fewer : l.counter + length l.rest ≤ length l.bytes;
    }
