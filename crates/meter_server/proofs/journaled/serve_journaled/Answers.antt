use Rattle.turn_lock.specs.Shown.{IsSame}
use Rattle.meter_server.specs.Journaled.{JournalSteps}
use Rattle.meter_server.specs.JournaledSessions.{AnswersCalls}
use Rattle.meter_server.specs.Sessions.{AsksThrough}
use Rattle.meter_server.proofs.JournalLemmas.{journal_steps, served_answered}
use Rattle.meter_server.proofs.PortLemmas.{between, served_same}
use Rattle.meter_server.proofs.SessionLemmas.{served_asks}
use Rattle.meter_server.proofs.journaled.serve_journaled.Goals as goal

pub returns-clause-same : goal.returns-clause-same
returns-clause-same g c =
    let D = g.D.Durability in
    between IsSame _ _ _ _ c.new-meter.ensures c.into_port.ensures
    (served_same (JournalSteps D.is_durable D.has_ended D.was_running)
    (journal_steps D.is_durable D.has_ended D.was_running) _ _ _ _
    c.serve_session-result.ensures)

pub returns-clause-asks : goal.returns-clause-asks
returns-clause-asks g c =
    let D = g.D.Durability in
    between (AsksThrough c.args.password.now) _ _ _ _ c.new-meter.ensures c.into_port.ensures
    (served_asks (JournalSteps D.is_durable D.has_ended D.was_running)
    (journal_steps D.is_durable D.has_ended D.was_running) _ _ _ _
    c.serve_session-result.ensures)

pub returns-clause-answers : goal.returns-clause-answers
returns-clause-answers g c =
    let D = g.D.Durability in
    between (AnswersCalls D.is_durable) _ _ _ _ c.new-meter.ensures
    c.into_port.ensures
    (served_answered D.is_durable D.has_ended D.was_running _ _ _ _ c.serve_session-result.ensures)
