-- The slices of a range, one after the other.
use Rattle.std.proofs.Common.{◌≡◌, ◌<◌, ◌≤◌, ◌+◌, ◌-◌, ◌&&◌, ◌⊎◌, inl, inr, if◌then◌else◌, nat_le, ℕ, zero}
use Rattle.std.proofs.Common.{suc, Bool, true, false, List, [], ◌∷◌, ◌++◌, Option, Some, None, Result}
use Rattle.std.proofs.Common.{Ok, Err, refl, sym, ◌∙◌, ap, subst, arith, length}
use Rattle.std.proofs.lemmas.Bool.{true≢false, false≢true}
use Rattle.std.proofs.lemmas.Bool.Decides.{leb_tells}
use Rattle.std.proofs.lemmas.List.{length-append}
use Rattle.std.proofs.lemmas.Option.{same_Some, none-some}
use Rattle.relay_events.specs.declared.event.Event.{Event}
use Rattle.relay_events.specs.declared.reply.Reply.{Reply}
use Rattle.fleet_meters.specs.Fleets.{FleetState}
use Rattle.fleet_meters.specs.declared.place.AccessFault.{AccessFault}
use Rattle.fleet_meters.specs.declared.place.AccessFault.TheVariants.{NoMeter, Memory}
use Rattle.fleet_meters.specs.Calls.{FleetCall, gave, Calls}
use Rattle.fleet_meters.proofs.Steps.{calls_on}
use Rattle.fleet_console.specs.Running.{GivesFrom, GivesEachBy, GivesBy, given_calls, size_in}
use Rattle.fleet_console.specs.Slices.{Underway, underway_after, has_more, first_slice, after_slice}
use Rattle.fleet_console.specs.Slices.{slice_size}
use Rattle.fleet_console.specs.Steps.{CarriesUntil, IsDone, SlicesGiveAll}
use Rattle.fleet_console.specs.declared.command.Command.TheVariants.{Give}
use Rattle.fleet_console.specs.declared.meters.Meters.{Meters}
use Rattle.fleet_console.proofs.Givings.{gives_none}

-- ---- events that were given

given_append : (place : ℕ) (event : Event) (xs ys : List Reply)
    → given_calls place event (xs ++ ys)
    ≡ given_calls place event xs ++ given_calls (place + length xs) event ys
given_append place event [] ys =
    let same : place ≡ place + 0 = omega arith in
    ap (λ (p : ℕ). given_calls p event ys) same
given_append place event (x ∷ xs) ys =
    let same : place + 1 + length xs ≡ place + length (x ∷ xs) = omega arith in
    ap (λ (calls : List FleetCall). gave place event x ∷ calls)
    (given_append (place + 1) event xs ys
    ∙ ap (λ (p : ℕ). given_calls (place + 1) event xs ++ given_calls p event ys) same)

-- some meters were given the event, and then those after them
gives_join : (f f' f'' : FleetState) (place count next count' : ℕ) (event : Event)
    → GivesFrom f place count event f' → next ≡ place + count
    → GivesFrom f' next count' event f'' → GivesFrom f place (count + count') event f''
gives_join f f' f'' place count next count' event first same then_ = record {
  replies = first.replies ++ then_.replies;
  counted = omega (arith, length-append first.replies then_.replies, first.counted, then_.counted);
  leads = λ room. subst (λ (calls : List FleetCall). Calls room f calls f'')
      (sym (given_append place event first.replies then_.replies))
      (calls_on room (given_calls place event first.replies)
      (given_calls (place + length first.replies) event then_.replies) f f' f''
      (first.leads room)
      (subst (λ (p : ℕ). Calls room f' (given_calls p event then_.replies) f'') there
      (then_.leads room)));
}
  where
    there : next ≡ place + length first.replies
    there = same ∙ ap (λ (n : ℕ). place + n) (sym first.counted)

given_count : (room place : ℕ) (event : Event) (replies : List Reply) (f f' : FleetState)
    → Calls room f (given_calls place event replies) f' → length f'.places ≡ length f.places
given_count room place event [] f f' by = ap (λ (x : FleetState). length x.places) by
given_count room place event (reply ∷ replies) f f' by =
    given_count room (place + 1) event replies by.0 f' by.2 ∙ by.1.stay.count

-- the fleet has as many meters as before
gives_count : (f f' : FleetState) (place count : ℕ) (event : Event)
    → GivesFrom f place count event f' → length f'.places ≡ length f.places
gives_count f f' place count event gives =
    given_count 0 place event gives.replies f f' (gives.leads 0)

-- ---- the meters that are left

-- the meters of a range before `left` were given the event
record GivenSo (all left : Meters) (event : Event) (old f : FleetState) : Type 0 where
  pub given : GivesFrom old (all.first - 1) (left.first - all.first) event f
  pub positive : 0 < all.first
  pub low : all.first ≤ left.first
  pub last : left.last ≡ all.last
  pub reached : ((left.first ≡ all.first) × (f ≡ old))
      ⊎ ((left.first ≤ length old.places) × (left.first ≤ left.last))

-- the command for a slice of the meters that are left
abbrev giving : ℕ → Meters → Event → Option Meters → ℕ → Underway
giving line slice event rest first =
    record { line = line; command = Give slice event; rest = rest; first = first }

-- a slice of the meters that are left, and the meters after it
record IsCut (left slice : Meters) (rest : Option Meters) : Type 0 where
  pub first : slice.first ≡ left.first
  pub parts : ((slice.last ≡ left.last) × (rest ≡ None))
      ⊎ ((slice.last + 1 ≡ left.first + slice_size) × (left.first + slice_size ≤ left.last)
      × (rest ≡ Some (record { first = left.first + slice_size; last = left.last })))

is_cut : (left : Meters) → IsCut left (first_slice left) (after_slice left)
is_cut left = elim (leb_tells (left.first + slice_size) left.last) [
  | inl long ↦
      let slice : record { first = left.first; last = left.first + slice_size - 1 }
      ≡ first_slice left =
      sym (ap (λ (b : Bool). if b then record {
        first = left.first;
        last = left.first + slice_size - 1;
      } else left) long.0) in
      subst (λ (s : Meters). IsCut left s (after_slice left)) slice (record {
        first = refl;
        parts = inr (
          omega arith,
          long.1,
          ap (λ (b : Bool). if b then Some (record {
            first = left.first + slice_size;
            last = left.last;
          }) else None) long.0,
        );
      })
  | inr short ↦
      subst (λ (s : Meters). IsCut left s (after_slice left))
      (sym (ap (λ (b : Bool). if b then record {
        first = left.first;
        last = left.first + slice_size - 1;
      } else left) short.0)) (record {
        first = refl;
        parts = inl (
          refl,
          ap (λ (b : Bool). if b then Some (record {
            first = left.first + slice_size;
            last = left.last;
          }) else None) short.0,
        );
      })
]

-- ---- the end

-- the event was given to all meters, to none, or to the first of them
abbrev GivesAll : Meters → Event → FleetState → FleetState → Type 0
GivesAll all event old new = (result : Result ℕ AccessFault) × GivesEachBy old all event result new

-- the fleet has none of the meters of a slice, so none of the range
all_none : (all left slice : Meters) (rest : Option Meters) (event : Event)
    (old f f' : FleetState) → GivenSo all left event old f → IsCut left slice rest
    → length f.places ≡ length old.places → size_in slice (length f.places) ≡ 0 → f' ≡ f
    → GivesAll all event old f'
all_none all left slice rest event old f f' so cut counted none same = by so.reached cut.parts
  where
    by : ((left.first ≡ all.first) × (f ≡ old))
        ⊎ ((left.first ≤ length old.places) × (left.first ≤ left.last))
        → ((slice.last ≡ left.last) × (rest ≡ None))
        ⊎ ((slice.last + 1 ≡ left.first + slice_size) × (left.first + slice_size ≤ left.last)
        × (rest ≡ Some (record { first = left.first + slice_size; last = left.last })))
        → GivesAll all event old f'
    by (inl start) (inl short) = (
      Err NoMeter,
      (
        omega (arith, start.0, short.0, so.last, cut.first, counted, none),
        same ∙ start.1,
      ),
    )
    by (inl start) (inr long) = (
      Err NoMeter,
      (
        omega (arith, start.0, long.0, so.last, cut.first, counted, none),
        same ∙ start.1,
      ),
    )
    by (inr later) (inl short) =
        absurd (omega (arith, later.0, later.1, short.0, cut.first, counted, none))
    by (inr later) (inr long) =
        absurd (omega (arith, later.0, later.1, long.0, cut.first, counted, none))

-- the meters of a slice, or the first of them, were given the event too
slice_joins : (all left slice : Meters) (rest : Option Meters) (event : Event)
    (old f f' : FleetState) (count : ℕ) → GivenSo all left event old f → IsCut left slice rest
    → GivesFrom f (slice.first - 1) count event f'
    → GivesFrom old (all.first - 1) (left.first - all.first + count) event f'
slice_joins all left slice rest event old f f' count so cut gives =
    gives_join old f f' (all.first - 1) (left.first - all.first) (slice.first - 1) count event
    so.given (omega (arith, so.positive, so.low, cut.first)) gives

all_memory : (all left slice : Meters) (rest : Option Meters) (event : Event)
    (old f f' : FleetState) (count : ℕ) → GivenSo all left event old f → IsCut left slice rest
    → length f.places ≡ length old.places → count ≤ size_in slice (length f.places)
    → GivesFrom f (slice.first - 1) count event f' → GivesAll all event old f'
all_memory all left slice rest event old f f' count so cut counted few gives = (
  Err Memory,
  (
    left.first - all.first + count,
    within so.reached cut.parts,
    slice_joins all left slice rest event old f f' count so cut gives,
  ),
)
  where
    within : ((left.first ≡ all.first) × (f ≡ old))
        ⊎ ((left.first ≤ length old.places) × (left.first ≤ left.last))
        → ((slice.last ≡ left.last) × (rest ≡ None))
        ⊎ ((slice.last + 1 ≡ left.first + slice_size) × (left.first + slice_size ≤ left.last)
        × (rest ≡ Some (record { first = left.first + slice_size; last = left.last })))
        → left.first - all.first + count ≤ size_in all (length old.places)
    within (inl start) (inl short) =
        omega (arith, start.0, short.0, so.last, so.low, cut.first, counted, few)
    within (inl start) (inr long) =
        omega (arith, start.0, long.0, long.1, so.last, so.low, cut.first, counted, few)
    within (inr later) (inl short) =
        omega (arith, later.0, later.1, short.0, so.last, so.low, cut.first, counted, few)
    within (inr later) (inr long) =
        omega (arith, later.0, later.1, long.0, long.1, so.last, so.low, cut.first, counted, few)

-- a slice was the last one
all_done : (all left slice : Meters) (rest : Option Meters) (event : Event)
    (old f f' : FleetState) (count : ℕ) → GivenSo all left event old f → IsCut left slice rest
    → length f.places ≡ length old.places → count ≡ size_in slice (length f.places) → 0 < count
    → GivesFrom f (slice.first - 1) count event f' → has_more rest (length old.places) ≡ false
    → GivesAll all event old f'
all_done all left slice rest event old f f' count so cut counted size some gives over = (
  Ok (left.first - all.first + count),
  (
    whole cut.parts,
    omega (arith, some),
    slice_joins all left slice rest event old f f' count so cut gives,
  ),
)
  where
    past : (r : Meters) → nat_le r.first (length old.places) ≡ false → length old.places < r.first
    past r fails = elim (leb_tells r.first (length old.places)) [
      | inl passes ↦ absurd (true≢false (sym passes.0 ∙ fails))
      | inr after ↦ after.1
    ]

    whole : ((slice.last ≡ left.last) × (rest ≡ None))
        ⊎ ((slice.last + 1 ≡ left.first + slice_size) × (left.first + slice_size ≤ left.last)
        × (rest ≡ Some (record { first = left.first + slice_size; last = left.last })))
        → left.first - all.first + count ≡ size_in all (length old.places)
    whole (inl short) = omega (arith, short.0, so.last, so.low, cut.first, counted, size, some)
    whole (inr long) =
        let end = past (record { first = left.first + slice_size; last = left.last })
        (sym (ap (λ (r : Option Meters). has_more r (length old.places)) long.2) ∙ over) in
        omega (arith, long.0, long.1, end, so.last, so.low, cut.first, counted, size, some)

-- the meters after a slice are left
so_on : (all left slice next : Meters) (rest : Option Meters) (event : Event)
    (old f f' : FleetState) (count : ℕ) → GivenSo all left event old f → IsCut left slice rest
    → length f.places ≡ length old.places → count ≡ size_in slice (length f.places)
    → GivesFrom f (slice.first - 1) count event f' → rest ≡ Some next
    → next.first ≤ length old.places → GivenSo all next event old f'
so_on all left slice next rest event old f f' count so cut counted size gives is within =
    after cut.parts
  where
    after : ((slice.last ≡ left.last) × (rest ≡ None))
        ⊎ ((slice.last + 1 ≡ left.first + slice_size) × (left.first + slice_size ≤ left.last)
        × (rest ≡ Some (record { first = left.first + slice_size; last = left.last })))
        → GivenSo all next event old f'
    after (inl short) = absurd (none-some next (sym short.1 ∙ is))
    after (inr long) =
        let same : next ≡ record { first = left.first + slice_size; last = left.last } =
        same_Some next (record { first = left.first + slice_size; last = left.last })
        (sym is ∙ long.2) in
        let first : next.first ≡ left.first + slice_size =
        ap (λ (m : Meters). m.first) same in
        let last : next.last ≡ left.last = ap (λ (m : Meters). m.last) same in
        record {
          given = subst (λ (n : ℕ). GivesFrom old (all.first - 1) n event f')
              (omega (arith, long.0, first, within, so.low, cut.first, counted, size))
              (slice_joins all left slice rest event old f f' count so cut gives);
          positive = so.positive;
          low = omega (arith, first, so.low);
          last = last ∙ so.last;
          reached = inr (within, omega (arith, first, last, long.1));
        }

-- what the steps after a slice do, if meters are left
abbrev GoesOn : ℕ → ℕ → ℕ → Meters → Event → FleetState → FleetState → FleetState → Type 0
GoesOn steps line first all event old f f' = (left : Meters) → GivenSo all left event old f
    → length f.places ≡ length old.places
    → CarriesUntil (Some (giving line (first_slice left) event (after_slice left) first)) steps f f'
    → GivesAll all event old f'

over_now : (next : Option Underway) (steps : ℕ) (f f' : FleetState) → next ≡ None
    → CarriesUntil next steps f f' → f' ≡ f
over_now next steps f f' none until =
    subst (λ (x : Option Underway). CarriesUntil x steps f f') none until

-- the event was given to the meters of a slice
slice_given : (steps line first : ℕ) (all left slice : Meters) (rest : Option Meters)
    (event : Event) (old f g f' : FleetState) (next : Option Underway) (is_done : Bool)
    (count : ℕ) (more : Bool) → GivenSo all left event old f → IsCut left slice rest
    → length f.places ≡ length old.places → count ≡ size_in slice (length f.places) → 0 < count
    → GivesFrom f (slice.first - 1) count event g → has_more rest (length old.places) ≡ more
    → IsDone (Ok tt) (Give slice event) more is_done
    → next ≡ (if is_done && more
    then Some (underway_after (giving line slice event rest first) rest) else None)
    → CarriesUntil next steps g f' → GoesOn steps line first all event old g f'
    → GivesAll all event old f'
slice_given steps line first all left slice rest event old f g f' next is_done count false so cut
    counted size some gives over done goes until again =
    subst (λ (x : FleetState). GivesAll all event old x)
    (sym (over_now next steps g f'
    (goes ∙ ap (λ (b : Bool). if b
    then Some (underway_after (giving line slice event rest first) rest) else None)
    (and_no is_done)) until))
    (all_done all left slice rest event old f g count so cut counted size some gives over)
  where
    and_no : (b : Bool) → (b && false) ≡ false
    and_no true = refl
    and_no false = refl
slice_given steps line first all left slice None event old f g f' next is_done count true so cut
    counted size some gives over done goes until again = absurd (false≢true over)
slice_given steps line first all left slice (Some r) event old f g f' next is_done count true so cut
    counted size some gives over done goes until again =
    again r
    (so_on all left slice r (Some r) event old f g count so cut counted size gives refl within)
    (gives_count f g (slice.first - 1) count event gives ∙ counted)
    (subst (λ (x : Option Underway). CarriesUntil x steps g f')
    (goes ∙ ap (λ (b : Bool). if b && true
    then Some (underway_after (giving line slice event (Some r) first) (Some r)) else None) done)
    until)
  where
    within : r.first ≤ length old.places
    within = elim (leb_tells r.first (length old.places)) [
      | inl passes ↦ passes.1
      | inr after ↦ absurd (false≢true (sym after.0 ∙ over))
    ]

-- a slice had this result
slice_ends : (steps line first : ℕ) (all left slice : Meters) (rest : Option Meters)
    (event : Event) (old f g f' : FleetState) (next : Option Underway) (is_done : Bool)
    (text : List ℕ) (result : Result Unit AccessFault) → GivenSo all left event old f
    → IsCut left slice rest → length f.places ≡ length old.places
    → GivesBy f slice event [] result g text
    → IsDone result (Give slice event) (has_more rest (length g.places)) is_done
    → next ≡ (if is_done && has_more rest (length g.places)
    then Some (underway_after (giving line slice event rest first) rest) else None)
    → CarriesUntil next steps g f' → GoesOn steps line first all event old g f'
    → GivesAll all event old f'
slice_ends steps line first all left slice rest event old f g f' next is_done text (Err NoMeter) so
    cut counted gives done goes until again =
    subst (λ (x : FleetState). GivesAll all event old x)
    (sym (over_now next steps g f'
    (goes ∙ ap (λ (b : Bool). if b && has_more rest (length g.places)
    then Some (underway_after (giving line slice event rest first) rest) else None) done) until))
    (all_none all left slice rest event old f g so cut counted gives.0.0 gives.0.1)
slice_ends steps line first all left slice rest event old f g f' next is_done text (Err Memory) so
    cut counted gives done goes until again =
    subst (λ (x : FleetState). GivesAll all event old x)
    (sym (over_now next steps g f'
    (goes ∙ ap (λ (b : Bool). if b && has_more rest (length g.places)
    then Some (underway_after (giving line slice event rest first) rest) else None) done) until))
    (all_memory all left slice rest event old f g gives.0 so cut counted gives.1 gives.2)
slice_ends steps line first all left slice rest event old f g f' next is_done text (Ok ended) so
    cut counted gives done goes until again =
    let same : length g.places ≡ length old.places =
    gives_count f g (slice.first - 1) gives.0 event gives.1.2 ∙ counted in
    slice_given steps line first all left slice rest event old f g f' next is_done gives.0
    (has_more rest (length old.places)) so cut counted gives.1.0 gives.1.1 gives.1.2 refl
    (subst (λ (n : ℕ). IsDone (Ok tt) (Give slice event) (has_more rest n) is_done) same done)
    (subst (λ (n : ℕ). next ≡ (if is_done && has_more rest n
    then Some (underway_after (giving line slice event rest first) rest) else None)) same goes)
    until again

slices_give : (steps line first : ℕ) (all left : Meters) (event : Event) (old f f' : FleetState)
    → GivenSo all left event old f → length f.places ≡ length old.places
    → CarriesUntil (Some (giving line (first_slice left) event (after_slice left) first)) steps f f'
    → GivesAll all event old f'
slices_give zero line first all left event old f f' so counted until = absurd until
slices_give (suc steps) line first all left event old f f' so counted until =
    let carries = until.2.carries in
    slice_ends steps line first all left (first_slice left) (after_slice left) event old f until.0
    f' until.1 until.2.is_done carries.text carries.result so (is_cut left) counted carries.runs
    carries.done until.2.goes_on until.3
    (λ next so' counted' later. slices_give steps line first all next event old until.0 f' so'
    counted' later)

pub slices_give_all : SlicesGiveAll
slices_give_all steps line meters event old new positive until =
    slices_give steps line meters.first meters meters event old old new (record {
      given = subst (λ (n : ℕ). GivesFrom old (meters.first - 1) n event old)
          (omega arith) (gives_none old (meters.first - 1) event);
      positive = positive;
      low = omega arith;
      last = refl;
      reached = inl (refl, refl);
    }) refl until
