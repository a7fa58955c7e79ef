-- What the relay of a journal's worker was given, save by save.
use Rattle.std.proofs.Common.{◌≡◌, ℕ, ◌≤◌, List, [], Option, Some, None, Result, Ok, Err, refl, sym}
use Rattle.std.proofs.Common.{subst, arith, length}
use Rattle.std.specs.Prelude.{IfSome}
use Rattle.turn_lock.specs.History.{StartsWith}
use Rattle.turn_lock.proofs.Lists.{starts_refl, starts_trans}
use Rattle.relay_core.specs.declared.opening.Opening.{Opening}
use Rattle.shared_meter.specs.Calls.{Calls, switches_of}
use Rattle.shared_meter.specs.Pending.{lines_of_calls}
use Rattle.meter_journal.specs.Relaying.{Follows, IsRelayed, OnRelay, StopsAt}
use Rattle.meter_journal.specs.declared.relay.Relay.{Relay}
use Rattle.meter_journal.proofs.RelayLemmas.{follows_none, on_relay_as, on_relay_then, stops_whole}
use Rattle.meter_journal.proofs.SwitchLemmas.{as_many, no_fewer}

module _ {W : Type 0} (contents : W → Option (List ℕ)) (IsOnDisk : Calls → ℕ → Type 0)
    (origin : Opening) where
  -- the run so far: the relay was `began` and is `now`, and was given the changes by a front of the
  -- calls whose lines are on the disk
  pub record Relaying (calls : Calls) (began now : Relay W) : Type 0 where
    pub front : Calls
    pub begins : StartsWith calls front
    pub on_disk : IsOnDisk front (length (lines_of_calls front))
    pub changes : ℕ
    pub within : changes ≤ switches_of origin front
    pub follows : Follows contents began changes now

  -- a relay that was given no change
  relaying_none : (calls : Calls) (relay : Relay W) → IsOnDisk [] 0 → relay.given ≡ 0
      → Relaying calls relay relay
  relaying_none calls relay on_disk none = record {
    front = [];
    begins = (calls, refl);
    on_disk = on_disk;
    changes = 0;
    within = omega arith;
    follows = follows_none contents relay none;
  }

  pub relaying_begins : (calls : Calls) (relay : Option (Relay W)) → IsOnDisk [] 0
      → IfSome relay (λ relay. relay.given ≡ 0) → OnRelay (Relaying calls) relay relay
  relaying_begins calls None on_disk none = tt
  relaying_begins calls (Some relay) on_disk none = relaying_none calls relay on_disk none

  -- the history has grown, and the relay was given nothing
  stopped_before : (T : Type 0) {E : Type 0} (error : E) (calls longer : Calls)
      (began now : Relay W)
      → StartsWith longer calls → Relaying calls began now
      → IsRelayed {T = T} contents IsOnDisk origin longer (Err error) began now
  stopped_before T error calls longer began now grows so = record {
    front = so.front;
    begins = starts_trans longer calls so.front grows so.begins;
    on_disk = so.on_disk;
    within = subst (λ n. n ≤ switches_of origin so.front) (sym so.follows.count) so.within;
    given = stops_whole contents began so.changes now so.follows;
    all = tt;
  }

  pub stop_before : (T : Type 0) {E : Type 0} (error : E) (calls longer : Calls)
      (began now : Option (Relay W)) → StartsWith longer calls → OnRelay (Relaying calls) began now
      → OnRelay (IsRelayed {T = T} contents IsOnDisk origin longer (Err error)) began now
  stop_before T error calls longer None None grows so = tt
  stop_before T error calls longer (Some began) (Some now) grows so =
      stopped_before T error calls longer began now grows so
  stop_before T error calls longer None (Some now) grows so = absurd so
  stop_before T error calls longer (Some began) None grows so = absurd so

  -- a relay that is given the changes by the calls so far
  abbrev Catches : (switches : ℕ) → Relay W → Relay W → Type 0
  Catches switches old new = (began : Relay W) (n : ℕ) → n ≤ switches
      → Follows contents began n old → Follows contents began switches new

  -- a relay that failed as it was given them
  abbrev Fails : (switches : ℕ) → Relay W → Relay W → Type 0
  Fails switches old new = (began : Relay W) (n : ℕ) → Follows contents began n old
      → StopsAt contents began new × (new.given ≤ switches)

  caught : (calls longer : Calls) (switches : ℕ) (began old new : Relay W)
      → StartsWith longer calls → switches ≡ switches_of origin longer
      → Relaying calls began old → Catches switches old new
      → Follows contents began (switches_of origin longer) new
  caught calls longer switches began old new grows are so catches =
      let more = no_fewer origin longer so.front
      (starts_trans longer calls so.front grows so.begins) in
      let low = so.within in
      subst (λ n. Follows contents began n new) are
      (catches began so.changes (omega (arith, are, more, low)) so.follows)

  relayed_on : (calls longer : Calls) (switches : ℕ) (began old new : Relay W)
      → StartsWith longer calls → IsOnDisk longer (length (lines_of_calls longer))
      → switches ≡ switches_of origin longer → Relaying calls began old
      → Catches switches old new → Relaying longer began new
  relayed_on calls longer switches began old new grows on_disk are so catches = record {
    front = longer;
    begins = starts_refl longer;
    on_disk = on_disk;
    changes = switches_of origin longer;
    within = omega arith;
    follows = caught calls longer switches began old new grows are so catches;
  }

  relayed_all : (E : Type 0) {T : Type 0} (value : T) (calls longer : Calls) (switches : ℕ)
      (began old new : Relay W) → StartsWith longer calls
      → IsOnDisk longer (length (lines_of_calls longer)) → switches ≡ switches_of origin longer
      → Relaying calls began old → Catches switches old new
      → IsRelayed {E = E} contents IsOnDisk origin longer (Ok value) began new
  relayed_all E value calls longer switches began old new grows on_disk are so catches =
      let all = caught calls longer switches began old new grows are so catches in
      let count = all.count in
      record {
        front = longer;
        begins = starts_refl longer;
        on_disk = on_disk;
        within = omega (arith, count);
        given = stops_whole contents began (switches_of origin longer) new all;
        all = all;
      }

  stopped_at : (T : Type 0) {E : Type 0} (error : E) (calls longer : Calls) (switches : ℕ)
      (began old new : Relay W) → IsOnDisk longer (length (lines_of_calls longer))
      → switches ≡ switches_of origin longer → Relaying calls began old → Fails switches old new
      → IsRelayed {T = T} contents IsOnDisk origin longer (Err error) began new
  stopped_at T error calls longer switches began old new on_disk are so fails =
      let stop = fails began so.changes so.follows in
      let few = stop.1 in
      record {
        front = longer;
        begins = starts_refl longer;
        on_disk = on_disk;
        within = omega (arith, few, are);
        given = stop.0;
        all = tt;
      }

  -- the same of a relay, if there is one
  pub relay_on : (calls longer : Calls) (switches : ℕ) (began old new : Option (Relay W))
      → StartsWith longer calls → IsOnDisk longer (length (lines_of_calls longer))
      → switches ≡ switches_of origin longer → OnRelay (Relaying calls) began old
      → OnRelay (Catches switches) old new → OnRelay (Relaying longer) began new
  relay_on calls longer switches began old new grows on_disk are =
      on_relay_then (Relaying calls) (Catches switches) (Relaying longer) began old new
      (λ x y z so catches. relayed_on calls longer switches x y z grows on_disk are so catches)

  pub relay_all : (E : Type 0) {T : Type 0} (value : T) (calls longer : Calls) (switches : ℕ)
      (began old new : Option (Relay W)) → StartsWith longer calls
      → IsOnDisk longer (length (lines_of_calls longer)) → switches ≡ switches_of origin longer
      → OnRelay (Relaying calls) began old → OnRelay (Catches switches) old new
      → OnRelay (IsRelayed {E = E} contents IsOnDisk origin longer (Ok value)) began new
  relay_all E value calls longer switches began old new grows on_disk are =
      on_relay_then (Relaying calls) (Catches switches)
      (IsRelayed contents IsOnDisk origin longer (Ok value)) began old new
      (λ x y z so catches.
      relayed_all E value calls longer switches x y z grows on_disk are so catches)

  pub relay_stops : (T : Type 0) {E : Type 0} (error : E) (calls longer : Calls) (switches : ℕ)
      (began old new : Option (Relay W)) → IsOnDisk longer (length (lines_of_calls longer))
      → switches ≡ switches_of origin longer → OnRelay (Relaying calls) began old
      → OnRelay (Fails switches) old new
      → OnRelay (IsRelayed {T = T} contents IsOnDisk origin longer (Err error)) began new
  relay_stops T error calls longer switches began old new on_disk are =
      on_relay_then (Relaying calls) (Fails switches)
      (IsRelayed contents IsOnDisk origin longer (Err error)) began old new
      (λ x y z so fails. stopped_at T error calls longer switches x y z on_disk are so fails)

  -- what a relay was given by the calls that its worker has seen, it was given by all of a run: if
  -- there are no further lines, there are no further changes
  relayed_same : (E E2 : Type 0) {T T2 : Type 0} (value : T) (later : T2) (calls longer : Calls)
      (began ended : Relay W) → StartsWith longer calls
      → length (lines_of_calls calls) ≡ length (lines_of_calls longer)
      → IsRelayed {E = E} contents IsOnDisk origin calls (Ok value) began ended
      → IsRelayed {E = E2} contents IsOnDisk origin longer (Ok later) began ended
  relayed_same E E2 value later calls longer began ended grows same is = record {
    front = is.front;
    begins = starts_trans longer calls is.front grows is.begins;
    on_disk = is.on_disk;
    within = is.within;
    given = is.given;
    all = subst (λ n. Follows contents began n ended)
        (sym (as_many origin longer calls grows same)) is.all;
  }

  relayed_longer : (T2 : Type 0) {T E E2 : Type 0} (end : Result T E) (error : E2)
      (calls longer : Calls)
      (began ended : Relay W) → StartsWith longer calls
      → IsRelayed contents IsOnDisk origin calls end began ended
      → IsRelayed {T = T2} contents IsOnDisk origin longer (Err error) began ended
  relayed_longer T2 end error calls longer began ended grows is = record {
    front = is.front;
    begins = starts_trans longer calls is.front grows is.begins;
    on_disk = is.on_disk;
    within = is.within;
    given = is.given;
    all = tt;
  }

  pub relay_same : (E E2 : Type 0) {T T2 : Type 0} (value : T) (later : T2) (calls longer : Calls)
      (began ended : Option (Relay W)) → StartsWith longer calls
      → length (lines_of_calls calls) ≡ length (lines_of_calls longer)
      → OnRelay (IsRelayed {E = E} contents IsOnDisk origin calls (Ok value)) began ended
      → OnRelay (IsRelayed {E = E2} contents IsOnDisk origin longer (Ok later)) began ended
  relay_same E E2 value later calls longer began ended grows same =
      on_relay_as (IsRelayed contents IsOnDisk origin calls (Ok value))
      (IsRelayed contents IsOnDisk origin longer (Ok later)) began ended
      (λ x y is. relayed_same E E2 value later calls longer x y grows same is)

  pub relay_longer : (T2 : Type 0) {T E E2 : Type 0} (end : Result T E) (error : E2)
      (calls longer : Calls)
      (began ended : Option (Relay W)) → StartsWith longer calls
      → OnRelay (IsRelayed contents IsOnDisk origin calls end) began ended
      → OnRelay (IsRelayed {T = T2} contents IsOnDisk origin longer (Err error)) began ended
  relay_longer T2 end error calls longer began ended grows =
      on_relay_as (IsRelayed contents IsOnDisk origin calls end)
      (IsRelayed contents IsOnDisk origin longer (Err error)) began ended
      (λ x y is. relayed_longer T2 end error calls longer x y grows is)
