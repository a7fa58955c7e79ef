-- A trace that was printed.
use Rattle.std.proofs.Common.{ℕ, List, Option, Some, None, Result, Ok, Err, IfOk}
use Rattle.std.specs.Prelude.{⊤, OnOk}
use Rattle.durable_lines.specs.FileModel.{FileModel}
use Rattle.meter_journal.specs.declared.fault.JournalFault.{JournalFault}
use Rattle.meter_journal.specs.declared.journal.JournalParts.{JournalParts}
use Rattle.meter_run.specs.Journaled.{AnyEnd, IsOnDisk, IsRun, Runs, first_port, session_steps}
use Rattle.meter_run.specs.declared.running.MeterRun.{MeterRun}
use Rattle.meter_run.specs.Runs.{IsRunFrom}
use Rattle.meter_run.proofs.RunLemmas.{run_as}
use Rattle.meter_server.proofs.JournalLemmas.{journal_steps}
use Rattle.meter_server.proofs.PortLemmas.{port_steps}
use Rattle.meter_server.proofs.SessionLemmas.{client_asks}
use Rattle.meter_server.specs.ServingAll.{IsLimit}
use Rattle.meter_server.specs.Sessions.{AsksThrough, ServesClient}
use Rattle.meter_server.specs.WithSources.{no_forecasts}
use Rattle.meter_server.specs.declared.serving_all.Served.{Served}
use Rattle.meter_server_cli.specs.Endings.{HasEnded, Prints, PrintsRun, PrintsText, PrintsTrace}
use Rattle.program.specs.declared.fault.Fault.{Fault}
use Rattle.relay_recorder.specs.Recording.{Recording}
use Rattle.session_io.specs.declared.fault.ServeFault.{ServeFault}
use Rattle.shared_meter.specs.Handed.{MeterPort}

-- a text of a kind was printed, if the trace has this kind
prints : (IsText : List ℕ → Type 0) (trace : Result (List ℕ) Fault)
    (result : Result (Unit {0}) Fault) (before after : Option (List ℕ)) → IfOk trace IsText
    → Prints trace before result after → OnOk result (PrintsText IsText before after)
prints IsText (Ok text) (Ok done) before after kind printed =
    record { text = text; kind = kind; printed = printed }
prints IsText (Ok text) (Err fault) before after kind printed = tt
prints IsText (Err fault) (Ok done) before after kind same = absurd cc
prints IsText (Err fault) (Err other) before after kind same = tt

module _ {F W I O : Type 0} (model : FileModel F) (contents : W → Option (List ℕ))
    (remaining : I → Option (List ℕ)) (written : O → Option (List ℕ)) where
  -- the calls of a session's port are the session's
  asked : (began : Option (JournalParts F W)) (password : List ℕ) (p q : MeterPort)
      → ServesClient remaining written (session_steps model AnyEnd began) password p q
      → AsksThrough password p q
  asked None password p q session =
      client_asks remaining written _ port_steps password p q session
  asked (Some parts) password p q session =
      client_asks remaining written _
      (journal_steps (IsOnDisk model parts.file) AnyEnd (λ port. ⊤)) password p q session

  asked_if : (began ended : Option (JournalParts F W)) (recorder : Recording) (password : List ℕ)
      (served : Result Served ServeFault) (journal : Result (Unit {0}) Fault)
      (trace : Result (List ℕ) Fault)
      → IfOk trace (IsRun model contents remaining written AnyEnd began recorder password
      no_forecasts served journal ended)
      → IfOk trace
      (IsRunFrom (first_port began) (AsksThrough password) recorder no_forecasts served)
  asked_if began ended recorder password served journal (Ok text) run =
      run_as (first_port began) _ (AsksThrough password) recorder no_forecasts served text
      (asked began password) run.run
  asked_if began ended recorder password served journal (Err fault) run = tt

  -- the trace of a run was printed
  pub run_printed : (began : Option (JournalParts F W)) (recorder : Recording)
      (password : List ℕ) (HasActed : JournalFault → Type 0) (end : MeterRun F W)
      (result : Result (Unit {0}) Fault) (before after : Option (List ℕ))
      → Runs model contents remaining written AnyEnd began recorder password no_forecasts HasActed
      end → Prints end.trace before result after
      → OnOk result (PrintsRun (first_port began) recorder password end.served before after)
  run_printed began recorder password HasActed end result before after runs =
      prints _ end.trace result before after
      (asked_if began end.parts recorder password end.served end.journal end.trace runs.run)

-- the trace of a run without a fault was printed, if that of this run was, and it had no fault
pub trace_printed : (first limit : ℕ) (recorder : Recording) (password : List ℕ)
    (served : Result Served ServeFault) (ended result : Result (Unit {0}) Fault)
    (before after : Option (List ℕ)) → OnOk ended (HasEnded served) → IfOk served (IsLimit limit)
    → OnOk result (PrintsRun first recorder password served before after)
    → OnOk result (OnOk ended (PrintsTrace first limit recorder password before after))
trace_printed first limit recorder password served (Ok done) (Ok printed) before after has_ended
    limited run = record { served = served; ended = has_ended; limited = limited; run = run }
trace_printed first limit recorder password served (Ok done) (Err fault) before after has_ended
    limited run = tt
trace_printed first limit recorder password served (Err fault) (Ok printed) before after has_ended
    limited run = tt
trace_printed first limit recorder password served (Err fault) (Err other) before after has_ended
    limited run = tt
