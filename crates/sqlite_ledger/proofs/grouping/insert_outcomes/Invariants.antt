use Rattle.std.proofs.Common.{[], take}
use Rattle.sqlite.specs.Held.{state}
use Rattle.sqlite_ledger.proofs.GroupStates.{AddsSome}
use Rattle.sqlite_ledger.proofs.grouping.insert_outcomes.Given as goal

-- the outcomes so far were added
abbrev pub invariant-outcomes : goal.invariant-outcomes
invariant-outcomes g l = AddsSome (state g.S.Store l.fn.conn) (state g.S.Store l.conn) l.second []
    (take l.ended-index l.outcomes)
