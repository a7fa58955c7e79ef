-- What a network reports.
--     NetworkEvent     a report
--     Tells            a network reported these events
--     PollsTo          it was waited for
--     AcceptsBy        it was asked for a client
use Rattle.std.specs.Prelude.{◌≡◌, ◌++◌, ℕ, Bool, List, [], ◌∷◌, Option, Some, None, Result, Ok}
use Rattle.std.specs.Prelude.{Err, ⊤}
use Rattle.fleet_links.specs.Streams.{StreamState}
use Rattle.meter_fleet.specs.declared.network.NetworkFault.{NetworkFault}
use Rattle.meter_fleet.specs.declared.network.NextClient.{NextClient}
use Rattle.meter_fleet.specs.declared.network.NextClient.TheVariants as next

-- A report of a network. `polled`: a call returned that might wait or not, with the keys of the
-- connections that are ready, the keys of those that were idle for too long, and whether clients
-- may be waiting; `failed`: such a call failed with this fault; `operated`: the operator was asked;
-- `accepted`: a client, with the key of its connection, the address that it named, and its stream;
-- `rejected`: a client was closed at once; `no_client`: no client was waiting.
pub data NetworkEvent : Type 0 where
  polled : Bool → List ℕ → List ℕ → Bool → NetworkEvent
  failed : Bool → NetworkFault → NetworkEvent
  operated : NetworkEvent
  accepted : ℕ → List ℕ → StreamState → NetworkEvent
  rejected : NetworkEvent
  no_client : NetworkEvent

-- whether the network reported exactly these events, in order; nothing is claimed of a network that
-- keeps no log of its reports
abbrev pub Tells : Option (List NetworkEvent) → List NetworkEvent → Option (List NetworkEvent)
    → Type 0
Tells None events new = ⊤
Tells (Some log) events None = ⊥
Tells (Some log) events (Some log') = log' ≡ log ++ events

-- Whether the network was polled, blocking only if `may_wait` holds. On success it appended the
-- keys of the ready connections to `ready` and those of the idle ones to `idle`, and returned
-- whether clients may be waiting.
abbrev pub PollsTo : Option (List NetworkEvent) → Bool → List ℕ → List ℕ
    → Result Bool NetworkFault → List ℕ → List ℕ → Option (List NetworkEvent) → Type 0
PollsTo old may_wait ready idle (Ok has_clients) ready' idle' new =
    (keys : List ℕ) × (lapsed : List ℕ) × (ready' ≡ ready ++ keys) × (idle' ≡ idle ++ lapsed)
    × Tells old (polled may_wait keys lapsed has_clients ∷ []) new
PollsTo old may_wait ready idle (Err fault) ready' idle' new =
    Tells old (failed may_wait fault ∷ []) new

module _ {S : Type 0} (state : S → StreamState) where
  -- the report of a client whose connection is to have this key
  abbrev pub event_of : ℕ → NextClient S → NetworkEvent
  event_of key (next.Client stream address) = accepted key address (state stream)
  event_of key next.Closed = rejected
  event_of key next.None = no_client

  -- whether the network was asked for a client, and reported what it returned
  abbrev pub AcceptsBy : Option (List NetworkEvent) → ℕ → NextClient S
      → Option (List NetworkEvent) → Type 0
  AcceptsBy old key client new = Tells old (event_of key client ∷ []) new
