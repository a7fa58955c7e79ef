-- The bytes left by an append, whether it succeeded or ran out of memory.
use Rattle.std.specs.Prelude.{◌≡◌, ℕ, List, ◌++◌}

-- whether the earlier bytes are unchanged at the front; others may follow
pub record Extends (before after : List ℕ) : Type 0 where
  pub added : List ℕ
  pub is : after ≡ before ++ added
