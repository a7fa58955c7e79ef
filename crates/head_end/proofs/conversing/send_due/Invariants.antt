use Rattle.std.proofs.Common.{true}
use Rattle.head_end.specs.Conversations.{SendsAll}
use Rattle.head_end.proofs.Talking.{KeepsTalking}
use Rattle.head_end.proofs.conversing.send_due.Given as goal

-- all messages returned were written, one in each iteration
abbrev pub invariant-texts : goal.invariant-texts
invariant-texts g l =
    SendsAll l.fn.client (g.K.Connection.forecast l.fn.connection) true l.client
    (g.K.Connection.forecast l.connection)
    × KeepsTalking l.counter l.fn.client (g.K.Connection.log l.fn.connection) l.client
    (g.K.Connection.log l.connection)
