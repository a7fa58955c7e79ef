use denote.Param.Send.{sendable}
use Rattle.std.proofs.Crossing.{crosses}
use Rattle.shared_meter.proofs.Sent.{kept_send}
use Rattle.turn_lock.proofs.Sent.{note_send}
use Rattle.meter_run.proofs.JournaledLemmas.{runs_by}
use Rattle.meter_run.proofs.journaled.run_in_lock.Goals as goal

pub serve-port-requires-send-D : goal.serve-port-requires-send-D
serve-port-requires-send-D g c κs within =
    let f = c.type_bounds.send-F in
    let k = c.type_bounds.send-K in
    search (sendable, crosses, note_send, kept_send) depth 40 fits 100000

pub returns-clause-runs : goal.returns-clause-runs
returns-clause-runs g c = λ recorder known.
    let K = g.K.JournalIdentity in
    let started = c.in-Some.started in
    runs_by g.F.DurableFile.model g.O.Write.contents K.may_end g.A.FailureAction.has_acted
    c.args.journal.parts started.running.promise.worker.value
    g.L.Input.Read.remaining g.L.Output.Write.contents _
    c.args.terms.now.password.now K.file K.first
    recorder (g.S.OwnSources.forecasts c.args.sources) _
    started.running.promise.port.value
    started.port c.serve-port.result.0 c.in-Some.ensures.parts c.requires.file
    c.requires.unrelayed (c.in-Some.ensures.starts _ known) c.serve-port.ensures.serves
    c.finish-trace.ensures.finished c.finish-trace.ensures.err c.finish-trace.ensures.journal
