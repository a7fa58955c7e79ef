-- A value that outlives everything refers to no lifetime.
use Rattle.std.proofs.Common.{◌≡◌, ℕ, List, [], ◌∷◌, refl}
use contract.BorrowLft.{◌⊑◌}
use mathlib.Core.List.{not-mem-nil, mem-cons_self}

pub names_none : (l : List ℕ) → [] ⊑ l → l ≡ []
names_none [] h = refl
names_none (a ∷ l) h = absurd (not-mem-nil (h a mem-cons_self))
