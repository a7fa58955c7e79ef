use Rattle.durable_lines.specs.RawModel.{raw_bytes}
use Rattle.durable_lines.proofs.RawLemmas.{sync_leaves}
use Rattle.durable_lines.proofs.raw_calls.sync_bytes.Goals as goal

pub returns-in-Ok-clause-durable : goal.returns-in-Ok-clause-durable
returns-in-Ok-clause-durable g c =
    sync_leaves _ (raw_bytes g.R.RawFile.model c.args.raw.now) _ c.in-Ok.ensures.synced
