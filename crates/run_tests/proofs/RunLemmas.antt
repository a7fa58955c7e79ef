-- A run whose sources are lists is a run, with the declared items of the lists.
use Rattle.std.proofs.Common.{ℕ, ◌+◌, List, Option, None, Some, subst, arith, IfOk, Result, Ok, Err}
use Rattle.durable_lines.specs.FileModel.{FileModel}
use Rattle.meter_journal.specs.declared.journal.JournalParts.{JournalParts}
use Rattle.shared_meter.specs.Calls.{IsLegal}
use Rattle.meter_run.specs.Journaled.{AnyEnd, IsRun}
use Rattle.meter_server.proofs.PortLemmas.{port_steps}
use Rattle.meter_server.proofs.SessionLemmas.{client_asked}
use Rattle.meter_server.specs.Ports.{PortSteps}
use Rattle.meter_server.specs.WithSources.{Forecasts}
use Rattle.meter_server.specs.declared.serving_all.Served.{Served}
use Rattle.relay_core.specs.declared.opening.Opening.{Opening}
use Rattle.relay_recorder.specs.Recording.{Recording}
use Rattle.run_tests.specs.ListedRuns.{Lists, IsListedRun}
use Rattle.session_io.specs.declared.fault.ServeFault.{ServeFault}
use Rattle.program.specs.declared.fault.Fault.{Fault}

-- the lists, as `IsRun` takes them
abbrev sources_of : Lists → Forecasts
sources_of lists = record {
  blocks = Some lists.blocks;
  moments = Some lists.moments;
  presses = Some lists.presses;
}

module _ {F W I O : Type 0} (model : FileModel F) (given : W → Option (List ℕ))
    (remaining : I → Option (List ℕ)) (contents : O → Option (List ℕ)) where
  abbrev IsRunOf : Recording → Lists → Result Served ServeFault → Result (Unit {0}) Fault
      → Option (JournalParts F W) → List ℕ → Type 0
  IsRunOf recorder lists served journal ended =
      IsRun model given remaining contents AnyEnd None recorder lists.password (sources_of lists)
      served journal ended

  listed : (recorder : Recording) (lists : Lists) (served : Served)
      (journal : Result (Unit {0}) Fault) (ended : Option (JournalParts F W)) (text : List ℕ)
      → IsRunOf recorder lists (Ok served) journal ended text
      → IsListedRun recorder lists served.served text
  listed recorder lists served journal ended text whole =
      let run = whole.run in
      record {
        calls = run.calls;
        listed = record {
          blocks = run.of_run.blocks.0;
          moments = run.of_run.moments;
          presses = run.of_run.presses;
          sessions = λ client below.
              let most = run.of_run.counted.most in
              client_asked remaining contents PortSteps port_steps lists.password _ run.calls
              (run.of_run.sessions (3 + client) (omega arith) (omega arith));
        };
        lawful = subst (λ (o : Opening). IsLegal o run.calls) run.begun run.of_run.lawful;
        kept = run.kept;
        stands = run.stands;
        traced = run.traced;
      }

  if_traced : {E : Type 0} (recorder : Recording) (lists : Lists) (served : Served)
      (journal : Result (Unit {0}) Fault) (ended : Option (JournalParts F W))
      (trace : Result (List ℕ) E)
      → IfOk trace (IsRunOf recorder lists (Ok served) journal ended)
      → IfOk trace (IsListedRun recorder lists served.served)
  if_traced recorder lists served journal ended (Ok text) run =
      listed recorder lists served journal ended text run
  if_traced recorder lists served journal ended (Err fault) run = tt

  -- a run that was not stopped early
  pub listed_if : {E : Type 0} (recorder : Recording) (lists : Lists)
      (served : Result Served ServeFault) (journal : Result (Unit {0}) Fault)
      (ended : Option (JournalParts F W))
      (trace : Result (List ℕ) E) → IfOk trace (IsRunOf recorder lists served journal ended)
      → IfOk served (λ (all : Served). IfOk trace (IsListedRun recorder lists all.served))
  listed_if recorder lists (Ok all) journal ended trace run =
      if_traced recorder lists all journal ended trace run
  listed_if recorder lists (Err fault) journal ended trace run = tt
