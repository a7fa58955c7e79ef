use Rattle.std.proofs.Common.{take}
use Rattle.sqlite.specs.Held.{state}
use Rattle.sqlite_ledger.proofs.AddedStates.{Adds}
use Rattle.sqlite_ledger.proofs.answers.adding.add_answers.Given as goal

-- the answers so far were appended
abbrev pub invariant-answers : goal.invariant-answers
invariant-answers g l = Adds (state g.S.Store l.fn.conn) (state g.S.Store l.conn)
    (take l.answer-index l.answers)
