use Rattle.std.specs.Prelude.{◌∷◌, [], ⊤}
use Rattle.meter_run.specs.Journaled.{AnyEnd, IsOnDisk}
use Rattle.meter_server.proofs.JournalLemmas.{client_answered}
use Rattle.crashed_runs.proofs.laws.sessions_of_a_run_are_answered.Goals as goal

pub returns : goal.returns
returns g c = λ parts recorder password sources served journal ended text run i late below.
    client_answered (IsOnDisk g.F.DurableFile.model parts.file) AnyEnd (λ port. ⊤)
    g.I.Read.remaining g.O.Write.contents password (i ∷ []) run.run.calls
    (run.run.of_run.sessions i late below)
