-- An interrupted write has written nothing.
use Rattle.std.proofs.Common.{◌≡◌, ◌<◌}
use Rattle.durable_lines.specs.RawModel.{CallsRaw, IsAtEnd}
use Rattle.durable_lines.proofs.raw_calls.write_retrying.Given as goal

abbrev pub invariant-tries : goal.invariant-tries
invariant-tries g l =
    let model = g.R.RawFile.model in
    let old = l.initial.raw in
    record {
      state : model.acts → model.state l.raw ≡ model.state old;
      place : model.acts → IsAtEnd model l.raw;
      calls : CallsRaw model old l.raw (0 < l.counter);
    }
