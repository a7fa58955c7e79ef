-- The histories of the tests' counters, and what a caller can conclude from two calls.
use Rattle.std.specs.Prelude.{◌≡◌, ℕ, ◌+◌, ◌%◌, ◌^◌, List, [], ◌∷◌, ◌++◌}
use Rattle.turn_lock.specs.declared.turned.Entry.{Entry}
use Rattle.turn_lock.specs.declared.known.Known.{Known}
use Rattle.turn_lock.specs.Calls.{IsLegal}

-- the count after n, which wraps at 2^64
abbrev pub next_count : ℕ → ℕ
next_count n = (n + 1) % 2 ^ 64

-- whether the reply of each call is the next count, starting from count n
abbrev pub Counts : {E : Type 0} → ℕ → List (Entry E ℕ) → Type 0
Counts n [] = Unit {0}
Counts n (call ∷ calls) = (call.reply ≡ next_count n) × Counts (next_count n) calls

-- the count after a history that starts from count n
abbrev pub count_after : {E : Type 0} → ℕ → List (Entry E ℕ) → ℕ
count_after n [] = n
count_after n (call ∷ calls) = count_after (next_count n) calls

-- whether the second call is after the first in one legal history, which the port has seen
pub record FollowsCall {E R O : Type 0} (legal : O → List (Entry E R) → Type 0)
    (first second : Entry E R) (known : Known E R O) : Type 0 where
  pub before : List (Entry E R)
  pub between : List (Entry E R)
  pub seen : known.seen ≡ ((before ++ first ∷ []) ++ between) ++ second ∷ []
  pub lawful : IsLegal legal known
