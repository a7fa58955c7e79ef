-- A text that is sent in blocks.
use Rattle.std.proofs.Common.{◌≡◌, ℕ, ◌≤◌, List, ◌++◌, length, take, sym, ◌∙◌, ap}
use Rattle.std.proofs.Math.ListN.{drop_of_length-le}
use Rattle.std.proofs.lemmas.List.{take-append-drop, append-nil}

-- taking at least as many bytes as there are takes them all
pub take_whole : (n : ℕ) (xs : List ℕ) → length xs ≤ n → take n xs ≡ xs
take_whole n xs h =
    sym (append-nil (take n xs)) ∙ ap (λ (ys : List ℕ). take n xs
    ++ ys) (sym (drop_of_length-le xs h)) ∙ take-append-drop n xs
