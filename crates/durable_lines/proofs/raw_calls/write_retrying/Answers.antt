use Rattle.durable_lines.proofs.RawLemmas.{front_written}
use Rattle.durable_lines.proofs.raw_calls.write_retrying.Goals as goal

pub returns-in-Ok-clause-front : goal.returns-in-Ok-clause-front
returns-in-Ok-clause-front g c acts =
    front_written c.in-Ok.count c.args.bytes.now _ _ _ (c.in-Ok.ensures.written acts)
    (c.tries.invariant.state acts)
