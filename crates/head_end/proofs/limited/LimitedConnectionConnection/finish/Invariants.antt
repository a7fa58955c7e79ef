use Rattle.std.proofs.Common.{◌≡◌}
use Rattle.head_end.proofs.limited.LimitedConnectionConnection.finish.Given as goal

-- the log is unchanged
abbrev pub invariant-reads : goal.invariant-reads
invariant-reads g l = g.S.LimitedStream.log l.self.stream
    ≡ g.S.LimitedStream.log l.fn.self.stream
