-- What a server begins with.
--     IsOpenAt    the journal or the relay that the options name is open
use Rattle.std.specs.Prelude.{◌≡◌, ⊤, ℕ, List, Option, Some, None}

-- whether a file is open at the path that the options name, and none if they name none; `text_of`
-- and `path_of` give the text of the one and the path of the other
abbrev pub IsOpenAt : {P O : Type 0} → (path : Option P) → (opened : Option O)
    → (text_of : P → List ℕ) → (path_of : O → List ℕ) → Type 0
IsOpenAt None None text_of path_of = ⊤
IsOpenAt (Some path) (Some opened) text_of path_of = path_of opened ≡ text_of path
IsOpenAt _ _ text_of path_of = ⊥
