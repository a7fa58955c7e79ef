-- The changes given so far.
use Rattle.std.proofs.Common.{◌-◌}
use Rattle.meter_journal.proofs.RelayLemmas.{Following}
use Rattle.meter_journal.proofs.relay.Relay.follow.Given as goal

abbrev pub invariant-changes : goal.invariant-changes
invariant-changes g l = Following g.W.Write.contents l.switches l.initial.self l.self

abbrev pub decreases-changes : goal.decreases-changes
decreases-changes g l = l.switches - l.self.given
