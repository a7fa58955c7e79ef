use denote.Param.Send.{sendable}
use Rattle.std.proofs.Crossing.{crosses}
use Rattle.shared_meter.proofs.Sent.{kept_send}
use Rattle.session_io.proofs.Sent.{event_send, reply_send}
use Rattle.meter_server.proofs.ServingAllLemmas.{accounts_beside, accounts_none, serves_beside}
use Rattle.meter_server.proofs.ServingAllLemmas.{serves_none}
use Rattle.meter_server.proofs.serving_all.serve_with_two.Goals as goal

pub start_worker-requires-send-T : goal.start_worker-requires-send-T
start_worker-requires-send-T g c κs within =
    search (sendable, crosses, kept_send) depth 20 fits 100000

pub start_worker-requires-send-T-Event : goal.start_worker-requires-send-T-Event
start_worker-requires-send-T-Event g c κs within =
    search (sendable, crosses, event_send) depth 20 fits 100000

pub start_worker-requires-send-T-Reply : goal.start_worker-requires-send-T-Reply
start_worker-requires-send-T-Reply g c κs within =
    search (sendable, crosses, reply_send) depth 20 fits 100000

pub returns-clause-serves : goal.returns-clause-serves
returns-clause-serves g c =
    serves_beside (λ w. g.S.EventSource.can_follow w.source) c.in-Some.ensures.worker
    c.in-Some.ensures.port c.join_both.ensures c.serve_with_one-served.ensures.serves

pub returns-clause-accounts : goal.returns-clause-accounts
returns-clause-accounts g c =
    let done = c.serve_with_one-served.ensures in
    accounts_beside (λ w. g.S.EventSource.can_follow w.source)
    c.in-Some.running.promise.worker.value c.in-Some.ensures.port c.join_both.ensures _ _ _ _ _
    done.serves.goes done.accounts (λ spent. spent)

pub returns-in_default-clause-serves : goal.returns-in_default-clause-serves
returns-in_default-clause-serves g c =
    serves_none _ 1 _ _ _ c.in_default.ensures.none.0 c.in_default.ensures.none.1
    c.in_default.ensures.within_one

pub returns-in_default-clause-accounts : goal.returns-in_default-clause-accounts
returns-in_default-clause-accounts g c = accounts_none _ _ _ _ _
