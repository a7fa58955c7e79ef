-- A connection at rest, over which a statement is a transaction of its own.
--     IsAtRest          no transaction is open, and the connection sees the last commit
use Rattle.std.specs.Prelude.{◌≡◌, false, IsTrue}
use Rattle.sqlite.specs.State.{State}

-- whether no transaction is open, so that the connection, if it is open, sees the last commit
abbrev pub IsAtRest : State → Type 0
IsAtRest s = (s.in_transaction ≡ false) × (IsTrue s.is_open → s.now ≡ s.committed)
