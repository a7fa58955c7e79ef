use Rattle.client_core.proofs.Clients.{tells_ended, tells_open}
use Rattle.client_core.proofs.client.Client.outcome.Goals as goal

pub returns-then-self : goal.returns-then-self
returns-then-self c = rw c.unwrap_or.ensures (tells_ended c.args.self.now c.if-self.true)

pub returns : goal.returns
returns c = tells_open c.args.self.now c.if-self.false
