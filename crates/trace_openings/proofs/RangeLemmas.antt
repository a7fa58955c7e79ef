-- Numbers in the ranges of their types.
use Rattle.std.proofs.Common.{◌≡◌, ℕ, suc, ◌+◌, ◌<◌, ◌≤◌, List, [], ◌∷◌, All, length, take, get_or, slice_index, subst, take_all, arith}
use Rattle.std.proofs.lemmas.List.Elements.{All-more}
use Rattle.trace_openings.specs.OpeningTraced.{AreIds}

pub ids_in_range : (ids : List ℕ) → ((i : ℕ) → slice_index ids i < 65536) → AreIds ids
ids_in_range [] small = tt
ids_in_range (id ∷ ids) small = (omega (arith, small 0), ids_in_range ids (λ i. small (suc i)))

-- ---- a fact of each item that a loop has passed

pub all_more : {X : Type 0} (P : X → Type 0) (xs : List X) (i : ℕ) (x : X) → i < length xs → x
    ≡ get_or xs i x → All P (take i xs) → P x → All P (take (i + 1) xs)
all_more P xs i x below is before here = All-more P xs i x below before (subst P is here)

pub all_of : {X : Type 0} (P : X → Type 0) (xs : List X) (i : ℕ) → length xs ≤ i → All P (take i xs)
    → All P xs
all_of P xs i end all = subst (All P) (take_all i xs end) all
