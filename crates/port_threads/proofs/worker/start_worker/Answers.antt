use Rattle.std.proofs.Common.{ap, arith}
use Rattle.port_threads.proofs.Working.{none_lost}
use Rattle.port_threads.proofs.worker.start_worker.Goals as goal

pub returns-in-Err-clause-none : goal.returns-in-Err-clause-none
returns-in-Err-clause-none g c =
    let split = c.in-Ok.ensures in
    let joined = c.join.ensures in
    none_lost g.T.Turned.legal _ c.split.new.self _ c.in-Ok.own c.in-Err.unused split.lock.0
    split.lock.1 split.parent split.child.2 c.in-Err.ensures.err joined.lock.0 joined.lock.1
    joined.joins

pub returns-in_default-clause-within_one : goal.returns-in_default-clause-within_one
returns-in_default-clause-within_one g c = omega
    (arith, ap (λ k. k.splits) c.in_default.ensures.err)

pub returns-in-Err-clause-within_one : goal.returns-in-Err-clause-within_one
returns-in-Err-clause-within_one g c = omega (
  arith,
  ap (λ k. k.splits) c.in-Ok.ensures.parent,
  c.join.ensures.joins.sees.splits,
)
