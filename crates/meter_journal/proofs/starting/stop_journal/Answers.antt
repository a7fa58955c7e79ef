use denote.Param.Send.{sendable}
use Rattle.std.proofs.Crossing.{crosses}
use Rattle.shared_meter.proofs.Sent.{kept_send}
use Rattle.turn_lock.proofs.Sent.{note_send}
use Rattle.meter_journal.proofs.starting.stop_journal.Goals as goal

pub join_worker-requires-send-K : goal.join_worker-requires-send-K
join_worker-requires-send-K g c κs within =
    let f = c.type_bounds.send-F in
    let w = c.type_bounds.send-W in
    let a = c.type_bounds.send-A in
    let l = c.type_bounds.send-L in
    search (sendable, crosses, note_send, kept_send) depth 40 fits 100000
