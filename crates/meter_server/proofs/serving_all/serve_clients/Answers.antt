use denote.Param.Send.{sendable}
use Rattle.std.proofs.Crossing.{crosses}
use Rattle.shared_meter.proofs.Sent.{kept_send}
use Rattle.session_io.proofs.Sent.{event_send, reply_send}
use Rattle.meter_server.proofs.JournalLemmas.{by_journal, terms_same}
use Rattle.meter_server.proofs.SessionLemmas.{served_as}
use Rattle.meter_server.proofs.serving_all.serve_clients.Goals as goal

pub serve_connections-requires-send-T : goal.serve_connections-requires-send-T
serve_connections-requires-send-T g c κs within =
    search (sendable, crosses, kept_send) depth 20 fits 100000

pub serve_connections-requires-send-T-Event : goal.serve_connections-requires-send-T-Event
serve_connections-requires-send-T-Event g c κs within =
    search (sendable, crosses, event_send) depth 20 fits 100000

pub serve_connections-requires-send-T-Reply : goal.serve_connections-requires-send-T-Reply
serve_connections-requires-send-T-Reply g c κs within =
    search (sendable, crosses, reply_send) depth 20 fits 100000

pub returns-then-accepted-clause-sessions : goal.returns-then-accepted-clause-sessions
returns-then-accepted-clause-sessions g c =
    let D = g.D.Durability in
    let terms = c.args.terms.now in
    served_as _ _ (by_journal g.L.Input.Read.remaining g.L.Output.Write.contents
    D.is_durable D.has_ended D.was_running terms.journal terms.password.now)
    c.args.port.now.known.splits c.serve_connections.new.port c.serve_connections.ensures.sessions

pub returns-then-accepted-2-clause-sessions : goal.returns-then-accepted-2-clause-sessions
returns-then-accepted-2-clause-sessions g c =
    let D = g.D.Durability in
    let terms = c.args.terms.now in
    served_as _ _ (by_journal g.L.Input.Read.remaining g.L.Output.Write.contents
    D.is_durable D.has_ended D.was_running terms.journal terms.password.now)
    c.args.port.now.known.splits c.serve_connections.new.port c.serve_connections.ensures.sessions

pub returns-clause-sessions : goal.returns-clause-sessions
returns-clause-sessions g c =
    let D = g.D.Durability in
    let terms = c.args.terms.now in
    served_as _ _ (by_journal g.L.Input.Read.remaining g.L.Output.Write.contents
    D.is_durable D.has_ended D.was_running terms.journal terms.password.now)
    c.args.port.now.known.splits c.serve_connections.new.port c.serve_connections.ensures.sessions

pub serve_connections-requires-clause-hands_back : goal.serve_connections-requires-clause-hands_back
serve_connections-requires-clause-hands_back g c κs within =
    let D = g.D.Durability in
    terms_same g.L.Input.Read.remaining g.L.Output.Write.contents D.is_durable D.has_ended
    D.was_running
