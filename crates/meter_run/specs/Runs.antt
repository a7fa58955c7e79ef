-- One run of a meter: its recorder is put into a lock, clients are served, sources are passed on,
-- and its trace is written.
--     AreOfRun    the calls of a run: which port made which
--     IsRunFrom   a run, from its recorder to the text of its trace
--     IsLeftOpen  a run at whose end a turn was still out
--     StartsFrom  the port that serving starts from
--     Traces      the text of the trace of the meter in the lock
use Rattle.std.specs.Prelude.{◌≡◌, ◌≢◌, ℕ, ◌+◌, ◌<◌, ◌≤◌, List, [], ◌∷◌, map, Some, IfOk, Result}
use Rattle.shared_meter.specs.Calls.{Calls, IsLegal, Stands}
use Rattle.shared_meter.specs.KeptRecorder.{KeptRecorder}
use Rattle.meter_run.specs.Closing.{FindsTurn}
use Rattle.meter_server.specs.ServingAll.{IsServed, OnEnded}
use Rattle.meter_server.specs.WithSources.{Forecasts, ServesAll}
use Rattle.meter_server.specs.declared.serving_all.Served.{Served}
use Rattle.trace_player.specs.RunTraces.{TellsRun}
use Rattle.shared_meter.specs.Blocks.{AllBlocks}
use Rattle.shared_meter.specs.Handed.{MeterPort}
use Rattle.shared_meter.specs.Sources.{AllMoments, AllPresses}
use Rattle.relay_core.specs.Opening.{opening_of}
use Rattle.relay_core.specs.declared.opening.Opening.{Opening}
use Rattle.relay_events.specs.declared.event.Event.{Event}
use Rattle.relay_events.specs.declared.reply.Reply.{Reply}
use Rattle.relay_recorder.specs.Recording.{Recording}
use Rattle.session_io.specs.declared.fault.ServeFault.{ServeFault}
use Rattle.port_threads.specs.Ports.{AreCallsOf, PortContinues}
use Rattle.turn_lock.specs.Calls.{Yields}
use Rattle.turn_lock.specs.History.{calls_by}
use Rattle.turn_lock.specs.declared.known.Known.{Known}
use Rattle.turn_lock.specs.declared.turned.Entry.{Entry}

-- the events of the calls of one port, in order
abbrev pub events_in : List ℕ → Calls → List Event
events_in number calls = map (λ (call : Entry Event Reply). call.event) (calls_by number calls)

-- Whether these are the calls of a run, in the order in which the meter applied them. Their replies
-- are those of the meter of the opening. If no worker stopped early, the calls of the port with the
-- number `first` are the blocks of the sampler with its reads, those of the next port the moments
-- of the clock, those of the port after it the presses of the button, all of them. The calls of
-- each further port are those of one client's session, as `Serves` states. The ports before `first`
-- made no call, and there is no call of any other port.
pub record AreOfRun (first : ℕ) (Serves : MeterPort → MeterPort → Type 0) (origin : Opening)
    (sources : Forecasts) (served : Result Served ServeFault) (calls : Calls) : Type 0 where
  pub lawful : IsLegal origin calls
  pub ports : ℕ
  pub others : (number : List ℕ) → ((i : ℕ) → i < ports → number ≢ i ∷ [])
      → calls_by number calls ≡ []
  pub silent : (i : ℕ) → i < first → calls_by (i ∷ []) calls ≡ []
  pub blocks : OnEnded served (AllBlocks sources.blocks (events_in (first ∷ []) calls))
  pub moments : OnEnded served
      (AllMoments sources.moments (events_in ((first + 1) ∷ []) calls))
  pub presses : OnEnded served
      (AllPresses sources.presses (events_in ((first + 2) ∷ []) calls))
  pub sessions : (i : ℕ) → first + 3 ≤ i → i < ports → AreCallsOf Serves (i ∷ []) calls
  pub counted : IfOk served (IsServed (first + 3) ports)

-- Whether this is a run of the meter with this recorder: its calls, the recorder that represents
-- them at its end, and the text of that recorder's trace, which plays to the replies that were
-- given. The ports before `first` are not those of sources and sessions.
pub record IsRunFrom (first : ℕ) (Serves : MeterPort → MeterPort → Type 0)
    (recorder : Recording) (sources : Forecasts) (served : Result Served ServeFault)
    (text : List ℕ) : Type 0 where
  pub kept : KeptRecorder
  pub begun : kept.origin ≡ opening_of recorder.core
  pub calls : Calls
  pub of_run : AreOfRun first Serves kept.origin sources served calls
  pub stands : Stands kept calls
  pub traced : TellsRun kept.recorder text

-- Whether serving starts from the port p: the one of a lock over an opening, from which all others
-- are split off, `first` of them already. Neither it nor those have made a call.
pub record StartsFrom (first : ℕ) (origin : Opening) (p : MeterPort) : Type 0 where
  pub origin_is : p.known.origin ≡ Some origin
  pub number : p.known.number ≡ []
  pub splits : p.known.splits ≡ first
  pub own : calls_by [] p.known.seen ≡ []

-- Whether a run ended while a turn was still out, so that it has no text: after clients were served
-- and sources passed on, the port from which all others were split off found a turn that had not
-- ended.
pub record IsLeftOpen (first : ℕ) (Serves : MeterPort → MeterPort → Type 0)
    (recorder : Recording) (sources : Forecasts) (served : Result Served ServeFault) : Type 0 where
  pub started : MeterPort
  pub starts : StartsFrom first (opening_of recorder.core) started
  pub ended : MeterPort
  pub serves : ServesAll Serves sources started ended served
  pub closing : MeterPort
  pub goes : PortContinues ended closing
  pub finds : FindsTurn closing.known

-- whether the text is that of the trace of the meter in the lock, by what a port of the lock knows
pub record Traces (k : Known Event Reply Opening) (text : List ℕ) : Type 0 where
  pub kept : KeptRecorder
  pub yields : Yields (λ (x : KeptRecorder). x.origin) Stands IsLegal k kept
  pub traced : TellsRun kept.recorder text
