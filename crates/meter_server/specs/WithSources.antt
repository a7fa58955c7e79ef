-- Clients that are served in parallel with the workers of some sources of events.
--     first_then    the events of the source with an index
--     ServesWith    what serving did to the port
--     Forecasts     what the meter's own sources have yet to return
--     no_forecasts  that of sources which declare nothing
--     ServesAll     what serving with the three sources of a meter did to the port
--     returned      the port of a result that has it in both cases
--     outcome       the rest of that result
use Rattle.std.specs.Prelude.{ℕ, zero, suc, ◌+◌, ◌<◌, List, Option, None, IfOk, Result, Ok, Err}
use Rattle.lane_sampler.specs.Samples.{Samples}
use Rattle.meter_server.specs.ServingAll.{Acted, IsServed, OnEnded}
use Rattle.meter_server.specs.declared.serving_all.Served.{Served}
use Rattle.shared_meter.specs.Blocks.{AllBlocks}
use Rattle.shared_meter.specs.Handed.{MeterPort}
use Rattle.shared_meter.specs.Sources.{AllMoments, AllPresses}
use Rattle.relay_events.specs.declared.event.Event.{Event}
use Rattle.session_io.specs.declared.fault.ServeFault.{ServeFault}
use Rattle.port_threads.specs.Ports.{PortContinues, AreJoined, AreServed, child}

-- whether these events can be all those of the source with an index: by `First` for the first
-- source, by `Others` for the others
abbrev pub first_then : (First : List Event → Type 0) → (Others : ℕ → List Event → Type 0) → ℕ
    → List Event → Type 0
first_then First Others zero = First
first_then First Others (suc i) = Others i

-- Whether port p became port q: clients were served, each as `Serves` states, and the events of
-- `count` sources were passed on, each by a port that was split off before those of the sessions.
-- If no worker stopped early, the events of each source are all its events.
pub record ServesWith (Serves : MeterPort → MeterPort → Type 0) (count : ℕ)
    (CanFollow : ℕ → List Event → Type 0) (p q : MeterPort) (served : Result Served ServeFault)
    : Type 0 where
  pub goes : PortContinues p q
  pub joined : AreJoined p.known.splits q
  pub sessions : AreServed Serves (p.known.splits + count) q
  pub counted : IfOk served (IsServed (p.known.splits + count) q.known.splits)
  pub acted : (i : ℕ) → i < count
      → OnEnded served (Acted q (child p.known.number (p.known.splits + i)) (CanFollow i))

-- what the sources of the meter's own events have yet to return, each if it declares it
pub record Forecasts : Type 0 where
  pub blocks : Option (List Samples)
  pub moments : Option (List ℕ)
  pub presses : Option ℕ

-- the forecasts of sources of which none declares what it has yet to return
abbrev pub no_forecasts : Forecasts
no_forecasts = record { blocks = None; moments = None; presses = None }

-- whether port p became port q: clients were served, each as `Serves` states, and the events of the
-- meter's own sources were passed on
pub record ServesAll (Serves : MeterPort → MeterPort → Type 0) (sources : Forecasts)
    (p q : MeterPort) (served : Result Served ServeFault) : Type 0 where
  pub goes : PortContinues p q
  pub joined : AreJoined p.known.splits q
  pub sessions : AreServed Serves (p.known.splits + 3) q
  pub counted : IfOk served (IsServed (p.known.splits + 3) q.known.splits)
  pub blocks : OnEnded served
      (Acted q (child p.known.number p.known.splits) (AllBlocks sources.blocks))
  pub moments : OnEnded served
      (Acted q (child p.known.number (p.known.splits + 1)) (AllMoments sources.moments))
  pub presses : OnEnded served
      (Acted q (child p.known.number (p.known.splits + 2)) (AllPresses sources.presses))

-- the port that a result has in both cases
abbrev pub port_after : {A E : Type 0} → Result (MeterPort × A) (MeterPort × E) → MeterPort
port_after (Ok (port, all)) = port
port_after (Err (port, fault)) = port

-- the rest of such a result
abbrev pub outcome : {A E : Type 0} → Result (MeterPort × A) (MeterPort × E) → Result A E
outcome (Ok (port, all)) = Ok all
outcome (Err (port, fault)) = Err fault
