-- The front of a trace: events that are read one after the other, and the trace that it gives.
use Rattle.std.proofs.Common.{◌≡◌, ℕ, zero, suc, ◌+◌, ◌-◌, ◌<◌, ◌≤◌, List, [], ◌∷◌, ◌++◌, Result}
use Rattle.std.proofs.Common.{Ok, Err, refl, sym, ap, ◌∙◌, append_assoc, append-nil, arith}
use Rattle.relay_events.specs.declared.event.Event.{Event}
use Rattle.trace_lines.specs.Events.{event_of}
use Rattle.trace_words.specs.Places.{Place, first_as, line_as, line_result, ended_at, value_at_end}
use Rattle.trace_words.specs.Rows.{Row}
use Rattle.trace_words.specs.declared.fault.RowFault.{RowFault}
use Rattle.trace_words.specs.declared.fault.TraceFault.{TraceFault}
use Rattle.trace_words.specs.declared.fault.TraceFault.TheVariants.{Line, Memory, TooLong}
use Rattle.trace_words.specs.declared.version.Version.{Version}
use Rattle.trace_views.specs.Fronts.{End, events_front}

-- a line is never too long a text
first_other : {X : Type 0} (value_in : Row → Result X RowFault) (number : ℕ) (rows : List Row)
    (unended : List ℕ) → first_as value_in number rows unended ≡ Err TooLong → ⊥
first_other value_in number [] unended e = absurd cc
first_other value_in number (row ∷ rows) unended e = by number rows unended (value_in row) e
  where
    by : {X : Type 0} (number : ℕ) (rows : List Row) (unended : List ℕ) (read : Result X RowFault)
        → line_result read number rows unended ≡ Err TooLong → ⊥
    by number rows unended (Ok x) e = absurd cc
    by number rows unended (Err fault) e = absurd cc

pub line_is_never_too_long : {X : Type 0} (value_in : Row → Result X RowFault) (place : Place)
    → line_as value_in place ≡ Err TooLong → ⊥
unfolding line_as
line_is_never_too_long value_in place e =
    first_other value_in place.number place.rows place.unended e

-- the fault after the last line is that of a line
left_is_line : {X : Type 0} (number : ℕ) (rows : List Row) (unended : List ℕ) (x : X)
    (fault : TraceFault) → value_at_end number rows unended x ≡ Err fault → fault ≡ Line number
left_is_line number [] [] x fault e = absurd cc
left_is_line number [] (byte ∷ bytes) x fault e = cc
left_is_line number (row ∷ rows) unended x fault e = cc

end_is_line : {X : Type 0} (place : Place) (x : X) (fault : TraceFault)
    → ended_at place x ≡ Err fault → fault ≡ Line place.number
unfolding ended_at
end_is_line place x fault e = left_is_line place.number place.rows place.unended x fault e

pub end_is_never_too_long : {X : Type 0} (place : Place) (x : X) → ended_at place x ≡ Err TooLong
    → ⊥
end_is_never_too_long place x e = let line = end_is_line place x TooLong e in absurd cc

pub end_is_never_memory : {X : Type 0} (place : Place) (x : X) → ended_at place x ≡ Err Memory → ⊥
end_is_never_memory place x e = let line = end_is_line place x Memory e in absurd cc

pub ruleset end_is_always_line = (end_is_never_too_long, end_is_never_memory)

-- events that were read, before the front of the lines that are left
abbrev pub joined : List Event → List Event × End → List Event × End
joined front others = (front ++ others.0, others.1)

-- the first i of the events were read, and the lines that are left give the others
pub record FrontRead (version : Version) (count i : ℕ) (front : List Event) (place : Place)
    (total : List Event × End) : Type 0 where
  pub all : joined front (events_front version (count - i) place) ≡ total

-- no event was read
pub none_read : (version : Version) (count : ℕ) (place : Place)
    → FrontRead version count 0 [] place (events_front version count place)
none_read version count place =
    let k : count - 0 ≡ count = omega arith in
    record { all = rw k refl }

-- one more event
pub one_read : (version : Version) (count i : ℕ) (front new : List Event) (old after : Place)
    (event : Event) (total : List Event × End)
    → i < count → line_as (event_of version) old ≡ Ok (event, after) → new ≡ front ++ event ∷ []
    → FrontRead version count i front old total
    → FrontRead version count (i + 1) new after total
unfolding events_front
one_read version count i front new old after event total lt read pushed so_far =
    let k : count - i ≡ suc (count - (i + 1)) = omega arith in
    let rest = events_front version (count - (i + 1)) after in
    let one : joined front (events_front version (count - i) old)
    ≡ joined (front ++ event ∷ []) rest =
    rw (k, read) (ap (λ (events : List Event). (events, rest.1))
    (sym (append_assoc front (event ∷ []) rest.0))) in
    record { all = rw pushed (sym one ∙ so_far.all) }

-- a wrong line
pub wrong_read : (version : Version) (count i : ℕ) (front : List Event) (old : Place)
    (fault : TraceFault) (total : List Event × End)
    → i < count → line_as (event_of version) old ≡ Err fault
    → FrontRead version count i front old total → (front, Err fault) ≡ total
unfolding events_front
wrong_read version count i front old fault total lt read so_far =
    let k : count - i ≡ suc (count - (i + 1)) = omega arith in
    let one : joined front (events_front version (count - i) old) ≡ (front, Err fault) =
    rw (k, read) (ap (λ (events : List Event). (events, Err fault)) (append-nil front)) in
    sym one ∙ so_far.all

-- all lines were read
pub all_read : (version : Version) (count i : ℕ) (front : List Event) (place : Place) (end : End)
    (total : List Event × End) → count ≤ i → end ≡ ended_at place tt
    → FrontRead version count i front place total → (front, end) ≡ total
unfolding events_front
all_read version count i front place end total le ended so_far =
    let k : count - i ≡ zero = omega arith in
    let one : joined front (events_front version (count - i) place) ≡ (front, ended_at place tt) =
    rw k (ap (λ (events : List Event). (events, ended_at place tt)) (append-nil front)) in
    ap (λ (e : End). (front, e)) ended ∙ sym one ∙ so_far.all
