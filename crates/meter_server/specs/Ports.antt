-- A port of a shared meter, as a meter.
use Rattle.std.specs.Prelude.{◌≡◌, ℕ, List, [], ◌∷◌, ◌++◌, Result, Ok, Err}
use Rattle.shared_meter.specs.Calls.{IsLegal, IsSure}
use Rattle.shared_meter.specs.Handed.{MeterPort}
use Rattle.relay_events.specs.declared.event.Event.{Event}
use Rattle.relay_events.specs.declared.reply.Reply.{Reply}
use Rattle.turn_lock.specs.Calls.{Called, Watches, IsCause}
use Rattle.turn_lock.specs.History.{entry, calls_by}
use Rattle.turn_lock.specs.declared.call_fault.CallFault.{CallFault}
use Rattle.turn_lock.specs.declared.turned.Entry.{Entry}

-- Whether a call through a port had this result. After a reply, the legal history that the port
-- knows ends with this call; after a fault it has no further call of the port, and the fault has a
-- cause.
abbrev pub Calls : MeterPort → Event → Result Reply CallFault → MeterPort → Type 0
Calls p event (Ok reply) q = Called IsLegal p.known event reply q.known
Calls p event (Err fault) q = Watches IsLegal p.known q.known
    × IsCause IsSure event p.bound q.known fault

-- whether a call through a port had this result; the port's lock and its bound on turns are
-- unchanged
pub record PortSteps (p : MeterPort) (event : Event) (result : Result Reply CallFault)
    (q : MeterPort) : Type 0 where
  pub lock : q.lock ≡ p.lock
  pub bound : q.bound ≡ p.bound
  pub calls : Calls p event result q

-- the calls of one port, by their events and replies
abbrev pub entries : List ℕ → List Event → List Reply → List (Entry Event Reply)
entries by (event ∷ events) (reply ∷ replies) = entry by event reply ∷ entries by events replies
entries by _ _ = []

-- whether in the history that the port knows its own calls were extended by these events and
-- replies, and by no others
abbrev pub Enters : MeterPort → List Event → List Reply → MeterPort → Type 0
Enters p events replies q =
    calls_by p.known.number q.known.seen ≡ calls_by p.known.number p.known.seen
    ++ entries p.known.number events replies
