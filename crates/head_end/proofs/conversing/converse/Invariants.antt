use Rattle.head_end.proofs.Turning.{Goes}
use Rattle.head_end.proofs.Talking.{Reaches}
use Rattle.head_end.proofs.conversing.converse.Given as goal

-- the turns so far have not settled the outcome, and the log is a conversation so far
abbrev pub invariant-turns : goal.invariant-turns
invariant-turns g l =
    Goes l.fn.client (g.K.Connection.forecast l.fn.connection) l.counter l.client
    (g.K.Connection.forecast l.connection)
    × Reaches l.fn.client (g.K.Connection.log l.fn.connection) l.counter l.client
    (g.K.Connection.log l.connection)
