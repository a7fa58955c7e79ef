-- A run whose sources are lists.
--     Lists           the items of the sources, and the password of the management client
--     AreListedCalls  the calls of such a run
--     IsListedRun     the run, with the text of its trace
use Rattle.std.specs.Prelude.{◌≡◌, ℕ, ◌+◌, ◌<◌, List, [], ◌∷◌, map, replicate}
use Rattle.shared_meter.specs.Calls.{Calls, IsLegal, Stands}
use Rattle.shared_meter.specs.KeptRecorder.{KeptRecorder}
use Rattle.lane_sampler.specs.Samples.{Samples}
use Rattle.meter_run.specs.Runs.{events_in}
use Rattle.meter_server.specs.Sessions.{AreAsked}
use Rattle.trace_player.specs.RunTraces.{TellsRun}
use Rattle.shared_meter.specs.Handed.{without_reads}
use Rattle.relay_core.specs.Opening.{opening_of}
use Rattle.relay_events.specs.declared.event.Event.TheVariants as event
use Rattle.relay_recorder.specs.Recording.{Recording}

-- The items of the sources, and the password of the management client.
pub record Lists : Type 0 where
  pub blocks : List Samples
  pub moments : List ℕ
  pub presses : ℕ
  pub password : List ℕ

-- Whether the first port's calls are the blocks of the list, with reads between them; the second's
-- are the moments; the third's are the presses. Each further port's calls, one port for each client
-- served, are those of a session with this password.
pub record AreListedCalls (lists : Lists) (clients : ℕ) (calls : Calls) : Type 0 where
  pub blocks : without_reads (events_in (0 ∷ []) calls) ≡ map event.Samples lists.blocks
  pub moments : events_in (1 ∷ []) calls ≡ map event.Moment lists.moments
  pub presses : events_in (2 ∷ []) calls ≡ replicate lists.presses event.Button
  pub sessions : (client : ℕ) → client < clients
      → AreAsked lists.password (events_in ((3 + client) ∷ []) calls)

-- Whether there is one list of calls whose replies are those of the written rules, starting from
-- the recorder's state. The meter at the end results from it, and the text is the trace of that
-- meter.
pub record IsListedRun (recorder : Recording) (lists : Lists) (clients : ℕ) (text : List ℕ)
    : Type 0 where
  pub calls : Calls
  pub listed : AreListedCalls lists clients calls
  pub lawful : IsLegal (opening_of recorder.core) calls
  pub kept : KeptRecorder
  pub stands : Stands kept calls
  pub traced : TellsRun kept.recorder text
