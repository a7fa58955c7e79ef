-- The results of a worker's thread.
use Rattle.std.specs.Prelude.{◌≡◌, Option, Some, None}
use Rattle.turn_lock.specs.Shown.{ShownPort, IsSame}
use Rattle.port_threads.specs.Ports.{TakesIn}

-- whether the port p was returned as q, and the work was not started or had this result
abbrev pub EndsWork : {E R O A : Type 0}
    → (ShownPort E R O → ShownPort E R O → A → Type 0) → ShownPort E R O → ShownPort E R O
    → Option A → Type 0
EndsWork did p q None = q ≡ p
EndsWork did p q (Some end) = did p q end

-- whether the port that was lent to a worker was returned, and joined into the port whose states
-- are `before` and `after`
pub record ReturnsPort {E R O A : Type 0} (did : ShownPort E R O → ShownPort E R O → A → Type 0)
    (lent : ShownPort E R O) (end : Option A) (before after : ShownPort E R O) : Type 0 where
  pub back : ShownPort E R O
  pub ended : EndsWork did lent back end
  pub same : IsSame lent back
  pub taken : TakesIn before back after
