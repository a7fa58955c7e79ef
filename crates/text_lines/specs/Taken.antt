-- What a call of `next` on the lines of a text does.
use Rattle.std.specs.Prelude.{◌≡◌, ℕ, List, [], ◌∷◌, Option, MatchOption}
use Rattle.std.specs.Borrow.{Bor}
use Rattle.text_lines.specs.Lines.{lines_of, unended_of}

-- whether the first line of a text was read, and the new text is what follows it; if no line is
-- ended, nothing changes
abbrev pub TakesLine : List ℕ → Option (Bor (List ℕ)) → List ℕ → Type 0
TakesLine old result new =
    MatchOption result ((lines_of old ≡ []) × (unended_of old ≡ old) × (new ≡ old))
    (λ line. (lines_of old ≡ line.now ∷ lines_of new) × (unended_of old ≡ unended_of new))
