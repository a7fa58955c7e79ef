-- Events that are given to meters, one after the other.
use Rattle.std.proofs.Common.{◌≡◌, ◌<◌, ◌≤◌, ◌+◌, ◌-◌, ℕ, List, [], ◌∷◌, ◌++◌, Result, Ok, Err, refl}
use Rattle.std.proofs.Common.{sym, ◌∙◌, ap, subst, arith, length, min, inl, inr, ◌⊎◌}
use Rattle.std.proofs.lemmas.List.{length-append}
use Rattle.relay_events.specs.declared.event.Event.{Event}
use Rattle.relay_events.specs.declared.reply.Reply.{Reply}
use Rattle.fleet_meters.specs.Fleets.{FleetState, Applies, GivesBy}
use Rattle.fleet_meters.specs.declared.place.AccessFault.{AccessFault}
use Rattle.fleet_meters.specs.declared.place.AccessFault.TheVariants.{NoMeter, Memory}
use Rattle.fleet_meters.specs.Calls.{FleetCall, gave, Calls, AreGiven, GivesEvents}
use Rattle.fleet_meters.proofs.Steps.{calls_on, gives_nothing}
use Rattle.fleet_console.specs.Running.{GivesFrom, GivesOneBy, GivesEachBy, RunsBy}
use Rattle.fleet_console.specs.Running.{given_calls, size_in}
use Rattle.fleet_console.specs.declared.meters.Meters.{Meters}
use Rattle.fleet_console.specs.declared.command.Command.{Command}
use Rattle.fleet_console.specs.declared.command.Command.TheVariants.{Give, State, Trace, Count}

-- the calls for one more meter
given_on : (place : ℕ) (event : Event) (replies : List Reply) (reply : Reply)
    → given_calls place event (replies ++ reply ∷ [])
    ≡ given_calls place event replies ++ gave (place + length replies) event reply ∷ []
given_on place event [] reply =
    let same : place ≡ place + 0 = omega arith in
    ap (λ (p : ℕ). gave p event reply ∷ []) same
given_on place event (r ∷ replies) reply =
    let same : place + 1 + length replies ≡ place + length (r ∷ replies) = omega arith in
    ap (λ (calls : List FleetCall). gave place event r ∷ calls)
    (given_on (place + 1) event replies reply
    ∙ ap (λ (p : ℕ). given_calls (place + 1) event replies ++ gave p event reply ∷ []) same)

-- no meter was given the event
pub gives_none : (f : FleetState) (place : ℕ) (event : Event) → GivesFrom f place 0 event f
gives_none f place event = record {
  replies = [];
  counted = refl;
  leads = λ room. refl;
}

-- one more meter was given the event
pub gives_on : (f f' f'' : FleetState) (place count at : ℕ) (event : Event) (reply : Reply)
    → GivesFrom f place count event f' → at ≡ place + count → Applies f' at event reply f''
    → GivesFrom f place (count + 1) event f''
gives_on f f' f'' place count at event reply first same applies = record {
  replies = first.replies ++ reply ∷ [];
  counted = omega (arith, length-append first.replies (reply ∷ []), first.counted);
  leads = λ room. subst (λ (calls : List FleetCall). Calls room f calls f'')
      (sym (given_on place event first.replies reply))
      (calls_on room (given_calls place event first.replies)
      (gave (place + length first.replies) event reply ∷ []) f f' f'' (first.leads room)
      (f'', subst (λ (p : ℕ). Applies f' p event reply f'') there applies, refl));
}
  where
    there : at ≡ place + length first.replies
    there = same ∙ ap (λ (n : ℕ). place + n) (sym first.counted)

-- the place of the next meter of a range, after the first ones
pub next_place : (first number place : ℕ) → first ≤ number → (number ≡ first) ⊎ (1 ≤ first)
    → number ≡ place + 1 → place ≡ first - 1 + (number - first)
next_place first number place low (inl e) same = omega (arith, e, same)
next_place first number place low (inr one) same = omega (arith, one, low, same)

-- a range whose first meter was given the event has numbers from 1 on
pub begun_on : (first number place : ℕ) → (number ≡ first) ⊎ (1 ≤ first) → number ≡ place + 1
    → (number + 1 ≡ first) ⊎ (1 ≤ first)
begun_on first number place (inl e) same = inr (omega (arith, e, same))
begun_on first number place (inr one) same = inr one

-- one more meter of a range was given the event
pub range_on : (f f' f'' : FleetState) (first number : ℕ) (event : Event) → first ≤ number
    → (number ≡ first) ⊎ (1 ≤ first) → GivesFrom f (first - 1) (number - first) event f'
    → GivesOneBy f' number event (Ok tt) f''
    → GivesFrom f (first - 1) (number + 1 - first) event f''
range_on f f' f'' first number event low begun gives one =
    let same : number - first + 1 ≡ number + 1 - first = omega (arith, low) in
    subst (λ (n : ℕ). GivesFrom f (first - 1) n event f'') same
    (gives_on f f' f'' (first - 1) (number - first) one.0 event one.1 gives
    (next_place first number one.0 low begun one.2) one.3)

-- the next meter was not given the event
pub range_stops : (f f' f'' : FleetState) (first number total : ℕ) (meters : Meters)
    (event : Event) → meters.first ≡ first → first ≤ number → number < min meters.last total + 1
    → GivesFrom f (first - 1) (number - first) event f' → f'' ≡ f' → (count : ℕ)
    × (count ≤ size_in meters total) × GivesFrom f (meters.first - 1) count event f''
range_stops f f' f'' first number total meters event same low high gives stays = (
  number - first,
  omega (arith, same, low, high),
  subst (λ (x : FleetState). GivesFrom f (meters.first - 1) (number - first) event x) (sym stays)
      (subst (λ (n : ℕ). GivesFrom f (n - 1) (number - first) event f') (sym same) gives),
)

-- all meters of a range were given the event
pub range_all : (f f' : FleetState) (first last : ℕ) (meters : Meters) (event : Event)
    → meters.first ≡ first → last ≡ min meters.last (length f.places) → first ≤ last
    → GivesFrom f (first - 1) (last + 1 - first) event f'
    → GivesEachBy f meters event (Ok (last + 1 - first)) f'
range_all f f' first last meters event same high low gives = (
  omega (arith, same, high),
  omega (arith, low),
  subst (λ (n : ℕ). GivesFrom f (n - 1) (last + 1 - first) event f') (sym same) gives,
)

-- the fleet has no meter of a range
pub range_none : (f f' : FleetState) (first last : ℕ) (meters : Meters) (event : Event)
    → meters.first ≡ first → last ≡ min meters.last (length f.places) → last < first → f' ≡ f
    → GivesEachBy f meters event (Err NoMeter) f'
range_none f f' first last meters event same high low stays = (
  omega (arith, same, high, low),
  stays,
)

-- one meter was given the event
pub gives_one : (f f' : FleetState) (number : ℕ) (event : Event) (reply : Reply)
    → GivesBy f number event (Ok reply) f' → GivesOneBy f number event (Ok tt) f'
gives_one f f' number event reply gives = (gives.0, reply, gives.1, gives.2)

all_given : (place : ℕ) (event : Event) (replies : List Reply)
    → AreGiven (given_calls place event replies)
all_given place event [] = tt
all_given place event (reply ∷ replies) = all_given (place + 1) event replies

pub from_gives : (f f' : FleetState) (place count : ℕ) (event : Event)
    → GivesFrom f place count event f' → GivesEvents f f'
from_gives f f' place count event gives = record {
  calls = given_calls place event gives.replies;
  given = all_given place event gives.replies;
  leads = gives.leads;
}

-- a command gives events, and does nothing else
pub runs_gives : (old new : FleetState) (command : Command) (text text' : List ℕ)
    (result : Result Unit AccessFault) → RunsBy old command text result new text'
    → GivesEvents old new
runs_gives old new (Give meters event) text text' (Ok done) runs =
    from_gives old new (meters.first - 1) runs.0 event runs.1.2
runs_gives old new (Give meters event) text text' (Err NoMeter) runs =
    gives_nothing old new runs.0.1
runs_gives old new (Give meters event) text text' (Err Memory) runs =
    from_gives old new (meters.first - 1) runs.0 event runs.2
runs_gives old new (State meters) text text' result runs = gives_nothing old new runs.0
runs_gives old new (Trace number path) text text' result runs = gives_nothing old new runs.0
runs_gives old new (Count state) text text' result runs = gives_nothing old new runs.0
