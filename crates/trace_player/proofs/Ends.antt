-- Nothing is left after a value.
use Rattle.std.proofs.Common.{◌≡◌, ℕ, List, [], ◌∷◌, Ok, Err, refl}
use Rattle.trace_words.specs.Places.{Place, value_at_end, ended_at}
use Rattle.trace_words.specs.Rows.{Row}
use Rattle.trace_words.specs.declared.fault.TraceFault.{TraceFault}

-- the end is the same for each value
nothing_left_as : {X : Type 0} (number : ℕ) (rows : List Row) (unended : List ℕ) (x : X)
    → value_at_end {X = Unit {0}} number rows unended tt ≡ Ok tt
    → value_at_end number rows unended x ≡ Ok x
nothing_left_as number [] [] x e = refl
nothing_left_as number [] (byte ∷ bytes) x e = absurd cc
nothing_left_as number (row ∷ rows) unended x e = absurd cc

something_left_as : {X : Type 0} (number : ℕ) (rows : List Row) (unended : List ℕ) (x : X)
    (fault : TraceFault) → value_at_end {X = Unit {0}} number rows unended tt ≡ Err fault
    → value_at_end number rows unended x ≡ Err fault
something_left_as number [] [] x fault e = absurd cc
something_left_as number [] (byte ∷ bytes) x fault e = cc
something_left_as number (row ∷ rows) unended x fault e = cc

pub ended_as : {X : Type 0} (place : Place) (x : X) → ended_at {X = Unit {0}} place tt ≡ Ok tt
    → ended_at place x ≡ Ok x
unfolding ended_at
ended_as place x e = nothing_left_as place.number place.rows place.unended x e

pub unended_as : {X : Type 0} (place : Place) (x : X) (fault : TraceFault)
    → ended_at {X = Unit {0}} place tt ≡ Err fault → ended_at place x ≡ Err fault
unfolding ended_at
unended_as place x fault e = something_left_as place.number place.rows place.unended x fault e
