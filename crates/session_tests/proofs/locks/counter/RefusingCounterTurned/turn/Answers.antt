use Rattle.std.proofs.Common.{refl}
use Rattle.turn_lock.proofs.Counting.{counts_on}
use Rattle.session_tests.proofs.locks.counter.RefusingCounterTurned.turn.Goals as goal

pub returns-in-Bump-clause-ok : goal.returns-in-Bump-clause-ok
returns-in-Bump-clause-ok c = λ by h s. counts_on 0 c.args.self.now.count _ by c.args.event h
    s.0 s.1 refl
