-- The end of `serve`.
--     end_of_console    the fault of the console
--     Prints            the text of a trace was printed
--     PrintsText        a text of this kind was printed
--     PrintsRun         the text of the trace of a run was printed
--     sampler_port      the number of the sampler's port in a run
--     HasEnded          serving ended without a fault
--     PrintsTrace       the text of the trace of a run without a fault was printed
use Rattle.std.specs.Prelude.{◌≡◌, ⊤, ℕ, zero, suc, Bool, true, false, Option, Some, None, List, Result, Ok, Err}
use Rattle.std.specs.Prelude.{IfOk}
use Rattle.std.specs.Io.KnownBytes.{Appends}
use Rattle.meter_console.specs.Ends.{has_failed, lost_lines}
use Rattle.meter_console.specs.declared.running.ConsoleEnd.{ConsoleEnd}
use Rattle.meter_server.specs.ServingAll.{IsLimit}
use Rattle.meter_server.specs.Sessions.{AsksThrough}
use Rattle.meter_server.specs.WithSources.{no_forecasts}
use Rattle.meter_run.specs.Runs.{IsRunFrom}
use Rattle.meter_server.specs.declared.serving_all.Served.{Served}
use Rattle.program.specs.declared.fault.Fault.{Fault}
use Rattle.program.specs.declared.fault.Fault.TheVariants as fault
use Rattle.relay_recorder.specs.Recording.{Recording}
use Rattle.session_io.specs.declared.fault.ServeFault.{ServeFault}
use Rattle.session_io.specs.declared.fault.ServeFault.TheVariants as serve

-- the fault of a console that lost this number of lines and may have failed to read; lost lines
-- take precedence
abbrev pub fault_of_lines : ℕ → Bool → Result (Unit {0}) Fault
fault_of_lines zero false = Ok tt
fault_of_lines zero true = Err fault.Read
fault_of_lines (suc lost) failed = Err fault.Memory

-- the fault of the console, if its end is known
abbrev pub end_of_console : Option ConsoleEnd → Result (Unit {0}) Fault
end_of_console None = Ok tt
end_of_console (Some end) = fault_of_lines (lost_lines end) (has_failed end)

-- whether a trace was printed as a whole, or the fault is that of the trace or of the write
abbrev pub Prints : Result (List ℕ) Fault → Option (List ℕ) → Result (Unit {0}) Fault
    → Option (List ℕ) → Type 0
Prints (Ok text) written (Ok done) written' = Appends written written' text
Prints (Ok text) written (Err wrong) written' = wrong ≡ fault.Write
Prints (Err given) written result written' = result ≡ Err given

-- whether a text of this kind was printed completely
pub record PrintsText (IsText : List ℕ → Type 0) (written written' : Option (List ℕ)) : Type 0 where
  pub text : List ℕ
  pub kind : IsText text
  pub printed : Appends written written' text

-- whether the text of the trace of a run was printed completely: a run of the meter with this
-- recorder, whose management client has this password, and whose serving ended in this way. Each
-- session's port made the calls of the session. `first` is the number of the sampler's port: 1 if
-- the run has a journal or a relay, whose worker has the first port, else 0
abbrev pub PrintsRun : (first : ℕ) → (recorder : Recording) → (password : List ℕ)
    → (served : Result Served ServeFault) → (written written' : Option (List ℕ)) → Type 0
PrintsRun first recorder password served =
    PrintsText (IsRunFrom first (AsksThrough password) recorder no_forecasts served)

-- the number of the sampler's port, by the journal and the relay of the meter
abbrev pub sampler_port : {J R : Type 0} → Option J → Option R → ℕ
sampler_port None None = 0
sampler_port _ _ = 1

-- whether serving ended without a fault: all its connections were served or turned away, or its
-- listener ended
abbrev pub HasEnded : Result Served ServeFault → Type 0
HasEnded (Ok all) = ⊤
HasEnded (Err serve.Listen) = ⊤
HasEnded (Err other) = ⊥

-- whether the text of the trace of a run whose serving ended without a fault was printed
-- completely; if there is a limit of connections, and the listener did not end, as many came
pub record PrintsTrace (first limit : ℕ) (recorder : Recording) (password : List ℕ)
    (written written' : Option (List ℕ)) : Type 0 where
  pub served : Result Served ServeFault
  pub ended : HasEnded served
  pub limited : IfOk served (IsLimit limit)
  pub run : PrintsRun first recorder password served written written'
