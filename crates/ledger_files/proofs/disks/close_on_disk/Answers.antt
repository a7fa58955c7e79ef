use Rattle.std.proofs.Common.{subst}
use Rattle.ledger_files.specs.Closings.{IsClosedWhole}
use Rattle.ledger_files.proofs.disks.close_on_disk.Goals as goal

pub returns-then-is_closed-clause-closed : goal.returns-then-is_closed-clause-closed
returns-then-is_closed-clause-closed g c =
    λ is. subst IsClosedWhole c.take_apart-has_failed.ensures.conn
    (c.close_whole-is_closed.ensures c.if-is_closed.true)
