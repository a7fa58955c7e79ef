-- The paths of the older files of a journal, one after the other.
use Rattle.std.proofs.Common.{◌≡◌, ℕ, suc, ◌+◌, List, [], ◌∷◌, ◌++◌, map, refl, sym, ap, subst, ◌∙◌}
use Rattle.std.proofs.Common.{arith}
use Rattle.std.proofs.lemmas.List.{map-append}
use Rattle.server_files.specs.Paths.{numbered_path, older_names}

older_more : (path : List ℕ) (count : ℕ)
    → older_names path (count + 1) ≡ older_names path count ++ numbered_path path (count + 1) ∷ []
older_more path count =
    let next : count + 1 ≡ suc count = omega arith in
    subst (λ (n : ℕ). older_names path n ≡ older_names path count ++ numbered_path path n ∷ [])
    (sym next) refl

-- one more path, with the next number
pub one_more : {S : Type 0} (bytes : S → List ℕ) (paths : List S) (next : S) (new : List S)
    (path : List ℕ) (count : ℕ) → map bytes paths ≡ older_names path count
    → new ≡ paths ++ next ∷ [] → bytes next ≡ numbered_path path (count + 1)
    → map bytes new ≡ older_names path (count + 1)
one_more bytes paths next new path count so is named =
    ap (map bytes) is ∙ map-append bytes paths (next ∷ [])
    ∙ ap (λ (names : List (List ℕ)). names ++ bytes next ∷ []) so
    ∙ ap (λ (name : List ℕ). older_names path count ++ name ∷ []) named
    ∙ sym (older_more path count)
