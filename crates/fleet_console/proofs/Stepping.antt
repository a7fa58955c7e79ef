-- A step of the console.
use Rattle.std.proofs.Common.{◌≡◌, ◌&&◌, if◌then◌else◌, ℕ, Bool, true, false, List, []}
use Rattle.std.proofs.Common.{Option, Some, None, IfSome, Ok, Err, refl, sym, ◌∙◌, ap, subst}
use Rattle.std.proofs.Common.{length}
use Rattle.fleet_meters.specs.Fleets.{FleetState}
use Rattle.fleet_meters.specs.declared.place.AccessFault.{AccessFault}
use Rattle.fleet_console.specs.Running.{RunsBy}
use Rattle.fleet_console.specs.Slices.{Underway, underway_after, has_more}
use Rattle.fleet_console.specs.Steps.{CarriesOut, CarriesSlice, IsDone, IsRead, StepsBy}

-- a command was carried out, and its answer was written or not
pub carried : (u : Underway) (old new : FleetState) (start text : List ℕ) (total : ℕ)
    (is_done : Bool) → start ≡ [] → total ≡ length new.places
    → RunsBy old u.command start (Ok tt) new text
    → IsDone (Ok tt) u.command (has_more u.rest total) is_done → CarriesOut u old is_done new
carried u old new start text total is_done empty counted runs done = record {
  text = text;
  result = Ok tt;
  runs = subst (λ (t : List ℕ). RunsBy old u.command t (Ok tt) new text) empty runs;
  done = subst (λ (n : ℕ). IsDone (Ok tt) u.command (has_more u.rest n) is_done) counted done;
}

-- a command was not carried out
pub refused_all : (u : Underway) (old new : FleetState) (start text : List ℕ)
    (fault : AccessFault) → start ≡ [] → RunsBy old u.command start (Err fault) new text
    → CarriesOut u old false new
refused_all u old new start text fault empty runs = record {
  text = text;
  result = Err fault;
  runs = subst (λ (t : List ℕ). RunsBy old u.command t (Err fault) new text) empty runs;
  done = refl;
}

-- the slice after this one is next
pub slice_goes_on : (u next : Underway) (old new : FleetState) (total : ℕ) (is_done : Bool)
    → CarriesOut u old is_done new → is_done ≡ true → total ≡ length new.places
    → has_more u.rest total ≡ true → next ≡ underway_after u u.rest
    → CarriesSlice u old new (Some next)
slice_goes_on u next old new total is_done carries passes counted more is = record {
  is_done = is_done;
  carries = carries;
  goes_on = ap (λ (x : Underway). Some x) is
      ∙ sym (ap (λ (b : Bool). if b && has_more u.rest (length new.places)
      then Some (underway_after u u.rest) else None) passes
      ∙ ap (λ (b : Bool). if b then Some (underway_after u u.rest) else None)
      (ap (λ (n : ℕ). has_more u.rest n) (sym counted) ∙ more));
}

-- the command is over
pub slice_stops : (u : Underway) (old new : FleetState) (total : ℕ) (is_done : Bool)
    → CarriesOut u old is_done new → total ≡ length new.places
    → (is_done && has_more u.rest total) ≡ false → CarriesSlice u old new None
slice_stops u old new total is_done carries counted fails = record {
  is_done = is_done;
  carries = carries;
  goes_on = sym (ap (λ (b : Bool). if b then Some (underway_after u u.rest) else None)
      (ap (λ (n : ℕ). is_done && has_more u.rest n) (sym counted) ∙ fails));
}

-- no command is under way
pub reads_line : (u next : Option Underway) (old new : FleetState) → u ≡ None → new ≡ old
    → IfSome next IsRead → StepsBy u old next new
reads_line u next old new none same read =
    subst (λ (x : Option Underway). StepsBy x old next new) (sym none) (same, read)
