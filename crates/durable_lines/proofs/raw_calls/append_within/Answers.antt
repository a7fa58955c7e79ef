use Rattle.std.proofs.Common.{rules}
use Rattle.durable_lines.proofs.RawLemmas.{then_append}
use Rattle.durable_lines.proofs.raw_calls.append_within.Goals as goal

pub returns-clause-call : goal.returns-clause-call
returns-clause-call g c = then_append g.R.RawFile.model _ _ _ _ _ _ c.args.bytes.now
    c.in-Ok.ensures.call c.write_all.ensures.call c.write_all.ensures.front
    (λ failed. search rules)
