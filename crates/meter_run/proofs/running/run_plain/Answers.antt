use Rattle.std.proofs.Common.{◌∙◌, ap, refl}
use Rattle.turn_lock.specs.Rule.{first_known}
use Rattle.meter_run.proofs.JournaledLemmas.{plain_runs}
use Rattle.meter_run.proofs.running.run_plain.Goals as goal

pub returns-in-Ok-clause-runs : goal.returns-in-Ok-clause-runs
returns-in-Ok-clause-runs g c =
    plain_runs g.F.DurableFile.model g.O.Write.contents g.A.FailureAction.has_acted
    g.L.Input.Read.remaining g.L.Output.Write.contents _
    c.args.terms.now.password.now c.args.recorder (g.S.OwnSources.forecasts c.args.sources)
    _ c.in-Ok.port c.serve-port.result.0
    (c.in-Ok.ensures.known ∙ ap first_known c.new.ensures.origin) c.serve-port.ensures.serves
    c.close_and_export.ensures.traces c.close_and_export.ensures.err
    c.close_and_export.ensures.still_out refl
