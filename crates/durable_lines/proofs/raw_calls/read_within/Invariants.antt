-- The bytes up to the place were read, and they are within the limit.
use Rattle.std.proofs.Common.{◌≡◌, ◌≤◌, length}
use Rattle.durable_lines.specs.RawModel.{raw_bytes, CallsRaw}
use Rattle.durable_lines.proofs.RawLemmas.{ReadsTo}
use Rattle.durable_lines.proofs.raw_calls.read_within.Given as goal

abbrev pub invariant-pieces : goal.invariant-pieces
invariant-pieces g l =
    let model = g.R.RawFile.model in
    let old = l.fn.raw in
    record {
      so : model.acts → ReadsTo (raw_bytes model old) (model.place l.raw) l.bytes.items;
      within : length l.bytes.items ≤ l.limit;
      state : model.state l.raw ≡ model.state old;
      calls : CallsRaw model old l.raw ⊥;
      room : length l.buffer ≡ length l.initial.buffer;
    }
