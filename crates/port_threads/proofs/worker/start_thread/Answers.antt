use denote.Param.Send.{sendable}
use Rattle.std.proofs.Crossing.{crosses}
use Rattle.std.proofs.option.Option.TheSendSync.{the_send as option_send}
use Rattle.turn_lock.proofs.Sent.{port_send}
use Rattle.port_threads.proofs.worker.start_thread.Goals as goal

pub spawn_with-requires-send-F : goal.spawn_with-requires-send-F
spawn_with-requires-send-F g c κs within =
    let r = c.type_bounds.send-R in
    let t = c.type_bounds.send-T in
    let k = c.type_bounds.send-K in
    let e = c.type_bounds.send-K-End in
    search (sendable, crosses, port_send) depth 20 fits 100000

pub spawn_with-requires-send-T : goal.spawn_with-requires-send-T
spawn_with-requires-send-T g c κs within =
    let t = c.type_bounds.send-T in
    let e = c.type_bounds.send-K-End in
    search (sendable, crosses, port_send, option_send) depth 20 fits 100000
