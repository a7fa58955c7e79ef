-- The lines that a file holds, also if it was renewed while they were appended: replaced by another
-- file, in whose text the earlier lines need not be.
--     IsSameOrRenewed   bytes that are the old ones or renew them
--     IsRebased         lines, the first of which a file held before it was renewed
--     HoldsAfter        the lines that a file holds after a number of renewals
--     Holds             the lines that a file holds after any number of renewals
use Rattle.std.specs.Prelude.{◌≡◌, ◌⊎◌, ℕ, zero, suc, List, ◌++◌}
use Rattle.durable_lines.specs.Lines.{lines_in}

-- whether bytes are the same as before, or renew them
abbrev pub IsSameOrRenewed : (Renews : List ℕ → List ℕ → Type 0) → List ℕ → List ℕ → Type 0
IsSameOrRenewed Renews old new = (new ≡ old) ⊎ Renews old new

-- Whether a file held the first of these lines, the base, and was then renewed. The lines of
-- `bytes` are those of the renewed file, followed by the lines after the base.
pub record IsRebased (Held : List (List ℕ) → List ℕ → Type 0)
    (Renews : List ℕ → List ℕ → Type 0) (lines : List (List ℕ)) (bytes : List ℕ) : Type 0 where
  pub base : List (List ℕ)
  pub rest : List (List ℕ)
  pub all : lines ≡ base ++ rest
  pub old : List ℕ
  pub held : Held base old
  pub renewed : List ℕ
  pub renewal : Renews old renewed
  pub appended : lines_in bytes ≡ lines_in renewed ++ rest

-- whether bytes hold these lines after a number of renewals. A file that was never renewed has its
-- first lines, followed by these. After a renewal it has those from the last base on
abbrev pub HoldsAfter : (Renews : List ℕ → List ℕ → Type 0) → (first : List (List ℕ))
    → (renewals : ℕ) → (lines : List (List ℕ)) → (bytes : List ℕ) → Type 0
HoldsAfter Renews first zero lines bytes = lines_in bytes ≡ first ++ lines
HoldsAfter Renews first (suc n) lines bytes =
    IsRebased (HoldsAfter Renews first n) Renews lines bytes

-- whether bytes hold these lines after some number of renewals
abbrev pub Holds : (Renews : List ℕ → List ℕ → Type 0) → (first : List (List ℕ))
    → (lines : List (List ℕ)) → (bytes : List ℕ) → Type 0
Holds Renews first lines bytes = (n : ℕ) × HoldsAfter Renews first n lines bytes
