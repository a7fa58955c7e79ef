use denote.Param.Send.{sendable}
use Rattle.std.proofs.Crossing.{crosses}
use Rattle.session_io.proofs.Sent.{event_send, reply_send}
use Rattle.shared_meter.proofs.Sent.{kept_send}
use Rattle.turn_lock.proofs.Sent.{note_send}
use Rattle.meter_journal.proofs.starting.start_journal.Goals as goal

pub start_worker-running-requires-send-T : goal.start_worker-running-requires-send-T
start_worker-running-requires-send-T g c κs within =
    search (sendable, crosses, kept_send) depth 20 fits 100000

pub start_worker-running-requires-send-T-Event : goal.start_worker-running-requires-send-T-Event
start_worker-running-requires-send-T-Event g c κs within =
    search (sendable, crosses, event_send) depth 20 fits 100000

pub start_worker-running-requires-send-T-Reply : goal.start_worker-running-requires-send-T-Reply
start_worker-running-requires-send-T-Reply g c κs within =
    search (sendable, crosses, reply_send) depth 20 fits 100000

pub start_worker-running-requires-send-K : goal.start_worker-running-requires-send-K
start_worker-running-requires-send-K g c κs within =
    let f = c.type_bounds.send-F in
    let w = c.type_bounds.send-W in
    let a = c.type_bounds.send-A in
    let l = c.type_bounds.send-L in
    search (sendable, crosses, note_send, kept_send) depth 40 fits 100000
