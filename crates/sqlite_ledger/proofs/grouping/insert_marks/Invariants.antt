use Rattle.std.proofs.Common.{[], take}
use Rattle.sqlite.specs.Held.{state}
use Rattle.sqlite_ledger.proofs.GroupStates.{AddsSome}
use Rattle.sqlite_ledger.proofs.grouping.insert_marks.Given as goal

-- the marks so far were added
abbrev pub invariant-places : goal.invariant-places
invariant-places g l = AddsSome (state g.S.Store l.fn.conn) (state g.S.Store l.conn) l.second
    (take l.place-index l.places) []
