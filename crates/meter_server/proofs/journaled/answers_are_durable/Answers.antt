use Rattle.meter_server.proofs.JournalLemmas.{written}
use Rattle.meter_server.proofs.journaled.answers_are_durable.Goals as goal

pub returns : goal.returns
returns g c =
    let D = g.D.Durability in written D.is_durable D.has_ended D.was_running
