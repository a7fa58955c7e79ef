use Rattle.shared_meter.proofs.SettlingLemmas.{durable_at_once}
use Rattle.shared_meter.proofs.settling.NoJournalDurability.wait.Goals as goal

pub returns-clause-durable : goal.returns-clause-durable
returns-clause-durable g c = λ yes. durable_at_once _ c.args.port.now.known.seen c.args._lines tt
