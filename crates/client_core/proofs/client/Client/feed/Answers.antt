use Rattle.std.proofs.Common.{sym}
use Rattle.client_core.proofs.Clients.{feeds_over, feeds_settled, feeds_heard}
use Rattle.client_core.proofs.client.Client.feed.Goals as goal

pub returns-then-self-clause-ok : goal.returns-then-self-clause-ok
returns-then-self-clause-ok c = feeds_over c.args.self.now c.args.bytes.now c.if-self.true

pub returns-then-is_some-clause-ok : goal.returns-then-is_some-clause-ok
returns-then-is_some-clause-ok c = feeds_settled c.args.self.now c.args.bytes.now
    (sym c.if-is_some.ensures)

pub returns-clause-ok : goal.returns-clause-ok
returns-clause-ok c =
    feeds_heard c.args.self.now c.args.bytes.now c.in_ok-progress.progress c.hear_more.new.deframer
    (rw (sym c.in_ok-deframer.ensures) c.in_ok-progress.ensures) c.if-self.false
