use Rattle.port_threads.proofs.Working.{ended_same, takes_in}
use Rattle.port_threads.proofs.worker.join_worker.Goals as goal

pub returns : goal.returns
returns g c =
    let task = c.args.running.promise in
    let joined = c.join.ensures in
    record {
      back = c.join-own.result.0;
      ended = c.join-own.ensures;
      same = ended_same (g.K.Worker.did task.worker.value) _ _ _
          (c.requires.hands_back task.worker.value) c.join-own.ensures;
      taken = takes_in g.T.Turned.legal _ _ _ joined.lock.0 joined.lock.1 joined.joins;
    }
