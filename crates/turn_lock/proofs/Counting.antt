-- The tests' counter: each further call counts one more.
use Rattle.std.proofs.Common.{◌≡◌, ℕ, List, [], ◌∷◌, ◌++◌, subst}
use Rattle.turn_lock.specs.declared.turned.Entry.{Entry}
use Rattle.turn_lock.specs.History.{entry}
use Rattle.turn_lock.specs.Trials.{next_count, Counts, count_after}

module _ {E : Type 0} where
  pub counts_on : (n m r : ℕ) (by : List ℕ) (e : E) (h : List (Entry E ℕ)) → Counts n h → m
      ≡ count_after n h → r ≡ next_count m → Counts n (h ++ entry by e r ∷ [])
      × (r ≡ count_after n (h ++ entry by e r ∷ []))
  counts_on n m r by e [] c is up =
      let now : r ≡ next_count n = subst (λ z. r ≡ next_count z) is up in
      (((now, tt)), now)
  counts_on n m r by e (x ∷ h) c is up =
      let t = counts_on (next_count n) m r by e h c.1 is up in
      ((c.0, t.0), t.1)
