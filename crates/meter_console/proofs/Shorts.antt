-- The lines of an input that are read, by its first line.
use Rattle.std.proofs.Common.{◌≡◌, ℕ, ◌+◌, ◌<◌, true, false, nat_le, cond, List, [], ◌∷◌, length, filter, ap, ◌∙◌, arith}
use Rattle.text_lines.specs.Lines.{lines_of}
use Rattle.meter_console.specs.Lines.{IsShort, max_line, lines_in}

-- a line that is read is the first
pub first_read : (input line rest : List ℕ) → lines_of input ≡ line ∷ lines_of rest → IsShort line
    → lines_in input ≡ line ∷ lines_in rest
unfolding lines_in
first_read input line rest e short =
    let yes : nat_le (length line + 1) max_line ≡ true = grind (arith) in
    ap (filter (λ (l : List ℕ). nat_le (length l + 1) max_line)) e
    ∙ ap (λ b. cond b (line ∷ lines_in rest) (lines_in rest)) yes

-- a line that is too long is skipped
pub first_skipped : (input line rest : List ℕ) → lines_of input ≡ line ∷ lines_of rest
    → max_line < length line + 1 → lines_in input ≡ lines_in rest
unfolding lines_in
first_skipped input line rest e long =
    let no : nat_le (length line + 1) max_line ≡ false = grind (arith) in
    ap (filter (λ (l : List ℕ). nat_le (length l + 1) max_line)) e
    ∙ ap (λ b. cond b (line ∷ lines_in rest) (lines_in rest)) no

-- no line is read from an input without lines
pub none_read : (input : List ℕ) → lines_of input ≡ [] → lines_in input ≡ []
unfolding lines_in
none_read input e = ap (filter (λ (l : List ℕ). nat_le (length l + 1) max_line)) e
