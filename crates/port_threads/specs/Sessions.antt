-- Open sessions, the development of the port from which theirs were split off, and the results of
-- the connections.
use Rattle.std.specs.Prelude.{◌≡◌, ◌≢◌, ◌⊎◌, ℕ, ◌+◌, ◌<◌, ◌≤◌, true, false, List, [], Option, Some, None}
use Rattle.std.specs.declared.thread.PromisedHandle.{PromisedHandle}
use Rattle.slab.specs.Slab.{Slab, get, slab_len}
use Rattle.turn_lock.specs.declared.port.Port.{Port}
use Rattle.turn_lock.specs.History.{IsLeaf, calls_by}
use Rattle.turn_lock.specs.Shown.{ShownPort}
use Rattle.port_threads.specs.declared.accepted.Accepted.{Accepted}
use Rattle.port_threads.specs.declared.accepted.Admission.{Admission}
use Rattle.port_threads.specs.declared.accepted.Admission.TheVariants.{Served, Crowded, Starved, SetupFailed}
use Rattle.port_threads.specs.declared.connections.Arrival.{Arrival}
use Rattle.port_threads.specs.declared.connections.Arrival.TheVariants as incoming
use Rattle.port_threads.specs.declared.session.Lent.{Lent}
use Rattle.port_threads.specs.Listening.{RisesBy, IsCounted}
use Rattle.port_threads.specs.Ports.{PortContinues, AreCallsOf, child}

-- the port that was lent to a session's thread
abbrev pub port_of : {T E R O C : Type 0} → PromisedHandle (Port T E R O) (Lent T C E R O)
    → ShownPort E R O
port_of session = session.promise.port.value

-- the terms on which a session's thread serves
abbrev pub terms_of : {T E R O C : Type 0} → (C → List ℕ)
    → PromisedHandle (Port T E R O) (Lent T C E R O) → List ℕ
terms_of terms session = terms session.promise.connection.value

-- whether no session is open, and there is capacity for eight
pub record IsEmpty {H : Type 0} (held : Slab H) : Type 0 where
  pub room : 8 ≤ held.capacity
  pub len : slab_len held ≡ 0
  pub none : (key : ℕ) → get held key ≡ None

module _ {H E R O : Type 0} (lent : H → ShownPort E R O) where
  -- whether there is capacity for eight sessions, and each open one has a place below eight and a
  -- port of the same lock
  pub record AreHeld (p : ShownPort E R O) (held : Slab H) : Type 0 where
    pub room : 8 ≤ held.capacity
    pub places : (key : ℕ) (session : H) → get held key ≡ Some session → key < 8
    pub locks : (key : ℕ) (session : H) → get held key ≡ Some session → (lent session).lock ≡ p.lock

module _ {H E R O : Type 0} (lent : H → ShownPort E R O) (terms_of : H → List ℕ)
    (did : List ℕ → ShownPort E R O → ShownPort E R O → Type 0) (terms : List ℕ) where
  -- whether an open session has the port with this number, which is new, and serves on these terms
  pub record IsOpen (held : Slab H) (number : List ℕ) : Type 0 where
    pub key : ℕ
    pub session : H
    pub there : get held key ≡ Some session
    pub named : (lent session).known.number ≡ number
    pub fresh : calls_by number (lent session).known.seen ≡ []
    pub unsplit : (lent session).known.splits ≡ 0
    pub on_terms : terms_of session ≡ terms

  -- whether the port with this number was joined in, and its calls are those of a session on these
  -- terms
  pub record IsEnded (p : ShownPort E R O) (number : List ℕ) : Type 0 where
    pub among : IsLeaf number p.known.joined
    pub served : AreCallsOf (did terms) number p.known.seen

  -- whether each port that was split off, from the count `from` on, was joined in or is that of an
  -- open session
  abbrev pub IsAccounted : ℕ → ShownPort E R O → Slab H → Type 0
  IsAccounted from p held = (i : ℕ) → from ≤ i → i < p.known.splits
      → IsEnded p (child p.known.number i) ⊎ IsOpen held (child p.known.number i)

  -- whether sessions were opened and closed, and no port was lost
  pub record KeepsPorts (p : ShownPort E R O) (held : Slab H) (q : ShownPort E R O) (later : Slab H)
      : Type 0 where
    pub goes : PortContinues p q
    pub holds : AreHeld lent p held → AreHeld lent q later
    pub accounts : (from : ℕ) → IsAccounted from p held → IsAccounted from q later

-- whether the limit of connections was reached, or fewer came and the listener failed; with the
-- limit 0 the listener failed
pub record IsComplete (limit : ℕ) (a : Accepted) : Type 0 where
  pub reached : a.has_failed ≡ false → (0 < limit) × (a.served + a.turned_away ≡ limit)
  pub failed : a.has_failed ≡ true → 0 < limit → a.served + a.turned_away < limit

-- whether a connection with this result may change the count of splits so: one that is served
-- splits off a port, one that was out of memory may have done so, and no other does
abbrev pub Takes : Admission → ℕ → ℕ → Type 0
Takes Served splits later = later ≡ splits + 1
Takes Crowded splits later = later ≡ splits
Takes Starved splits later = splits ≤ later
Takes SetupFailed splits later = later ≡ splits

-- whether a connection that its listener closed is reported with the listener's reason; no other is
-- reported as one whose stream could not be set up
abbrev pub IsClosedFor : {C : Type 0} → Arrival C → Admission → Type 0
IsClosedFor (incoming.Ready connection) outcome = outcome ≢ SetupFailed
IsClosedFor incoming.OutOfMemory outcome = outcome ≡ Starved
IsClosedFor incoming.SetupFailed outcome = outcome ≡ SetupFailed

-- whether a connection is closed as one too many only if eight sessions are open
abbrev pub IsCrowd : {H : Type 0} → Admission → Slab H → Type 0
IsCrowd outcome held = outcome ≡ Crowded → 8 ≤ slab_len held

-- whether the number of open sessions rises at most by one, and only if a connection is served
abbrev pub Opens : Admission → ℕ → ℕ → Type 0
Opens Served count later = later ≤ count + 1
Opens _ count later = later ≤ count

-- whether the listener counts a failure to set up a stream exactly if that is the result
abbrev pub FailsSetup : Admission → Option ℕ → Option ℕ → Type 0
FailsSetup SetupFailed before after = RisesBy before 1 after
FailsSetup _ before after = RisesBy before 0 after

-- whether the number is one more, or has reached 2^64 - 1
abbrev pub IsOneMore : ℕ → ℕ → Type 0
IsOneMore n more = (n ≤ more) × (n < 18446744073709551615 → more ≡ n + 1)

-- whether one more connection with this result is counted, as served or as turned away
abbrev pub IsAdded : Admission → Accepted → Accepted → Type 0
IsAdded Served a b = IsOneMore a.served b.served × (b.turned_away ≡ a.turned_away)
    × (b.has_starved ≡ a.has_starved)
IsAdded Starved a b = b.has_starved ≡ true
IsAdded _ a b = IsOneMore a.turned_away b.turned_away × (b.served ≡ a.served)
    × (b.has_starved ≡ a.has_starved)

-- Whether each connection that was turned away had a reason. If none was out of memory, a port or a
-- thread, and fewer than eight were served, all of them are those whose stream could not be set up,
-- as the listener counts them.
abbrev pub HaveReasons : (before : Option ℕ) (a : Accepted) (after : Option ℕ) → Type 0
HaveReasons before a after = a.has_starved ≡ false → a.served < 8
    → IsCounted before a.turned_away after

-- whether no more connections were served than ports were split off; and as many, if none was
-- closed for lack of one and the count has not saturated
pub record IsServed (splits later : ℕ) (a : Accepted) : Type 0 where
  pub most : splits + a.served ≤ later
  pub all : a.has_starved ≡ false → a.served < 18446744073709551615 → splits + a.served ≡ later
