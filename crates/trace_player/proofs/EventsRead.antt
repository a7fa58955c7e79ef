-- Events read one after the other from their lines by a loop.
use Rattle.std.proofs.Common.{◌≡◌, ℕ, zero, suc, ◌+◌, ◌-◌, ◌<◌, ◌≤◌, List, [], ◌∷◌, ◌++◌, Ok, Err, refl, sym, subst, ap, ◌∙◌, append_assoc, append-nil, arith, inl, inr}
use Rattle.wire_bytes.specs.Outcome.{◌>>=◌, Fails}
use Rattle.wire_bytes.proofs.OutcomeLemmas.{done}
use Rattle.relay_events.specs.declared.event.Event.{Event}
use Rattle.trace_lines.specs.Events.{event_of}
use Rattle.trace_words.specs.Places.{Place, ReadLines, line_as}
use Rattle.trace_words.specs.declared.fault.TraceFault.{TraceFault}
use Rattle.trace_words.specs.declared.fault.TraceFault.TheVariants.{Memory}
use Rattle.trace_words.specs.declared.version.Version.{Version}
use Rattle.trace_player.specs.Traces.{events_at}

-- what was read before, joined with what is still to be read
abbrev pub with_front : List Event → ReadLines (List Event) → ReadLines (List Event)
with_front front read = read >>= λ others. done TraceFault (front ++ others.0, others.1)

-- the first i of the events were read, and the lines that are left give the others
pub record EventsRead (version : Version) (count i : ℕ) (front : List Event) (place : Place)
    (total : ReadLines (List Event)) : Type 0 where
  pub all : with_front front (events_at version (count - i) place) ≡ total

-- one event moves from those still to be read to those read
regroup : (front : List Event) (event : Event) (read : ReadLines (List Event))
    → with_front front (read >>= λ others. done TraceFault (event ∷ others.0, others.1))
    ≡ with_front (front ++ event ∷ []) read
regroup front event (Ok (others, place)) = ap
    (λ (events : List Event). done TraceFault (events, place))
    (sym (append_assoc front (event ∷ []) others))
regroup front event (Err fault) = refl

-- no event was read
pub none_read : (version : Version) (count : ℕ) (place : Place)
    → EventsRead version count 0 [] place (events_at version count place)
none_read version count place =
    let k : count - 0 ≡ count = omega arith in
    record { all = rw k (same (events_at version count place)) }
  where
    same : (read : ReadLines (List Event)) → with_front [] read ≡ read
    same (Ok (others, place)) = refl
    same (Err fault) = refl

-- one more event
pub event_read : (version : Version) (count i : ℕ) (front new : List Event) (old after : Place)
    (event : Event) (total : ReadLines (List Event))
    → i < count → line_as (event_of version) old ≡ Ok (event, after) → new ≡ front ++ event ∷ []
    → EventsRead version count i front old total
    → EventsRead version count (i + 1) new after total
unfolding events_at
event_read version count i front new old after event total lt h pushed so_far =
    let k : count - i ≡ suc (count - (i + 1)) = omega arith in
    let one : with_front front (events_at version (count - i) old)
    ≡ with_front (front ++ event ∷ []) (events_at version (count - (i + 1)) after) =
    rw (k, h) (regroup front event (events_at version (count - (i + 1)) after)) in
    let all : EventsRead version count (i + 1) (front ++ event ∷ []) after total =
    record { all = sym one ∙ so_far.all } in
    subst (λ (events : List Event). EventsRead version count (i + 1) events after total)
    (sym pushed) all

-- an event that is refused ends the reading
pub event_refused : (version : Version) (count i : ℕ) (front : List Event) (old : Place)
    (fault : TraceFault) (total : ReadLines (List Event))
    → i < count → Fails Memory fault (line_as (event_of version) old)
    → EventsRead version count i front old total → Fails Memory fault total
unfolding events_at
event_refused version count i front old fault total lt (inl memory) so_far = inl memory
event_refused version count i front old fault total lt (inr h) so_far =
    let k : count - i ≡ suc (count - (i + 1)) = omega arith in
    let one : with_front front (events_at version (count - i) old) ≡ Err fault = rw (k, h) refl in
    inr (sym so_far.all ∙ one)

-- all events were read
pub events_read : (version : Version) (count i : ℕ) (front : List Event) (place : Place)
    (total : ReadLines (List Event)) → count ≤ i → EventsRead version count i front place total
    → total ≡ Ok (front, place)
unfolding events_at
events_read version count i front place total le so_far =
    let k : count - i ≡ zero = omega arith in
    let one : with_front front (events_at version (count - i) place) ≡ Ok (front, place) =
    rw k (ap (λ (events : List Event). done TraceFault (events, place)) (append-nil front)) in
    sym so_far.all ∙ one
