use Rattle.std.proofs.Common.{refl}
use Rattle.meter_journal.proofs.RelayLemmas.{follows_one, stops_one}
use Rattle.meter_journal.proofs.relay.Relay.give_change.Goals as goal

pub returns-in-Err-clause-stopped : goal.returns-in-Err-clause-stopped
returns-in-Err-clause-stopped g c =
    stops_one g.W.Write.contents c.args.self.now _ refl c.in-Err.ensures.front

pub returns-clause-given : goal.returns-clause-given
returns-clause-given g c =
    follows_one g.W.Write.contents c.args.self.now _ refl refl c.in_default.ensures.given
