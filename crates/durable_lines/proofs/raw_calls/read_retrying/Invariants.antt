-- An interrupted read has read nothing.
use Rattle.std.proofs.Common.{◌≡◌, ◌<◌, length}
use Rattle.durable_lines.specs.RawModel.{CallsRaw}
use Rattle.durable_lines.proofs.raw_calls.read_retrying.Given as goal

abbrev pub invariant-tries : goal.invariant-tries
invariant-tries g l =
    let model = g.R.RawFile.model in
    let old = l.initial.raw in
    record {
      state : model.state l.raw ≡ model.state old;
      place : model.acts → model.place l.raw ≡ model.place old;
      calls : CallsRaw model old l.raw (0 < l.counter);
      room : length l.buffer ≡ length l.initial.buffer;
    }
