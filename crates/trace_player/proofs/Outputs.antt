-- The output of a trace whose events were played as they were read.
use Rattle.std.proofs.Common.{◌≡◌, ℕ, List, Ok, Err}
use Rattle.relay_core.specs.Opening.{world_of_opening}
use Rattle.relay_core.specs.Stands.{StandsFor}
use Rattle.relay_core.specs.declared.opening.Opening.{Opening}
use Rattle.relay_core.specs.declared.relay.RelayCore.{RelayCore}
use Rattle.relay_recorder.specs.declared.trace.Trace.{Trace}
use Rattle.trace_words.specs.Places.{Place, ended_at}
use Rattle.trace_words.specs.declared.fault.TraceFault.{TraceFault}
use Rattle.trace_words.specs.declared.version.Version.{Version}
use Rattle.trace_player.specs.Playing.{PlaysEvents, PlaysTrace}
use Rattle.trace_player.specs.Traces.{trace_of_opening}
use Rattle.trace_player.proofs.Ends.{ended_as, unended_as}

-- a trace of this opening and of the events that were played
abbrev trace_with : {version : Version} {count : ℕ} {place after : Place} {core : RelayCore}
    {out : List ℕ} → Opening → PlaysEvents version count place after core out → Trace
trace_with opening played = record { opening = opening; events = played.events }

-- nothing is left after the events
pub played_behind : (version : Version) (count : ℕ) (opening : Opening) (place after : Place)
    (core : RelayCore) (out : List ℕ) → PlaysEvents version count place after core out
    → StandsFor core (world_of_opening opening) → ended_at {X = Unit {0}} after tt ≡ Ok tt
    → PlaysTrace (trace_of_opening version count opening place) out count
played_behind version count opening place after core out played stands ended =
    record {
      trace = trace_with opening played;
      read = rw played.read (ended_as after (trace_with opening played) ended);
      wrote = played.wrote (world_of_opening opening) stands;
      counted = played.counted;
    }

-- something is left after the events
pub surplus_behind : (version : Version) (count : ℕ) (opening : Opening) (place after : Place)
    (core : RelayCore) (out : List ℕ) (fault : TraceFault)
    → PlaysEvents version count place after core out → ended_at {X = Unit {0}} after tt ≡ Err fault
    → trace_of_opening version count opening place ≡ Err fault
surplus_behind version count opening place after core out fault played left =
    rw played.read (unended_as after (trace_with opening played) fault left)
