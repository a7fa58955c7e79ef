use Rattle.std.proofs.Common.{refl}
use Rattle.turn_lock.proofs.Counting.{counts_on}
use Rattle.session_tests.proofs.locks.counter.CounterTurned.turn.Goals as goal

pub returns-clause-ok : goal.returns-clause-ok
returns-clause-ok c = λ by h s. counts_on 0 c.args.self.now.count _ by c.args._event h s.0 s.1 refl
