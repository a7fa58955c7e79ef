use denote.Param.Send.{sendable}
use Rattle.std.proofs.Crossing.{crosses}
use Rattle.turn_lock.proofs.Sent.{port_send}
use Rattle.port_threads.proofs.Static.{names_none}
use Rattle.port_threads.proofs.session.start.Goals as goal

pub spawn_with-session-requires-static-F : goal.spawn_with-session-requires-static-F
spawn_with-session-requires-static-F g c κs within =
    let b = c.type_bounds in
    rw (
      names_none _ b.static-T,
      names_none _ b.static-T-Event,
      names_none _ b.static-T-Reply,
      names_none _ b.static-T-Origin,
      names_none _ b.static-C,
      names_none _ b.static-R,
    ) (λ a m. m)

pub spawn_with-session-requires-static-T : goal.spawn_with-session-requires-static-T
spawn_with-session-requires-static-T g c κs within =
    let b = c.type_bounds in
    rw (
      names_none _ b.static-T,
      names_none _ b.static-T-Event,
      names_none _ b.static-T-Reply,
      names_none _ b.static-T-Origin,
    ) (λ a m. m)

pub spawn_with-session-requires-send-F : goal.spawn_with-session-requires-send-F
spawn_with-session-requires-send-F g c κs within =
    let r = c.type_bounds.send-R in
    let t = c.type_bounds.send-T in
    let h = c.type_bounds.send-C in
    search (sendable, crosses, port_send) depth 20 fits 100000

pub spawn_with-session-requires-send-T : goal.spawn_with-session-requires-send-T
spawn_with-session-requires-send-T g c κs within =
    let t = c.type_bounds.send-T in search (sendable, crosses, port_send) depth 20 fits 100000
