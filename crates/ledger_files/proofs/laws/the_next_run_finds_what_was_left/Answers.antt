use Rattle.ledger_files.proofs.NextRun.{finds_left, finds_down}
use Rattle.ledger_files.proofs.laws.the_next_run_finds_what_was_left.Goals as goal

pub returns-clause-left : goal.returns-clause-left
returns-clause-left g c last numbered sound held may now opened ledger entries is = finds_left last
    numbered sound held may now opened ledger entries is

pub returns-clause-marked : goal.returns-clause-marked
returns-clause-marked g c last numbered sound held may now opened ledger entries is = finds_down
    last
    numbered sound held may now opened ledger entries is
