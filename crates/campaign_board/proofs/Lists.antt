-- An element of a list after another one was set.
use Rattle.std.proofs.Common.{◌≡◌, ◌<◌, ℕ, zero, suc, Bool, true, false, List, [], ◌∷◌, ◌++◌, Some, None, refl, ap, take, length, arith}
use Rattle.std.specs.Prelude.{slice_get, slice_set, if◌then◌else◌}
use Rattle.client_core.specs.Texts.{text_at}

pub get_set_same : {A : Type 0} (xs : List A) (i : ℕ) (x y : A) → slice_get xs i ≡ Some x
    → slice_get (slice_set xs i y) i ≡ Some y
get_set_same [] i x y is = absurd cc
get_set_same (z ∷ xs) zero x y is = refl
get_set_same (z ∷ xs) (suc i) x y is = get_set_same xs i x y is

pub get_set_other : {A : Type 0} (xs : List A) (i j : ℕ) (y : A) → (i ≡ j → ⊥)
    → slice_get (slice_set xs i y) j ≡ slice_get xs j
get_set_other [] i j y apart = refl
get_set_other (z ∷ xs) zero zero y apart = absurd (apart refl)
get_set_other (z ∷ xs) zero (suc j) y apart = refl
get_set_other (z ∷ xs) (suc i) zero y apart = refl
get_set_other (z ∷ xs) (suc i) (suc j) y apart =
    get_set_other xs i j y (λ same. apart (ap suc same))

-- the messages up to one of them
pub take_text : (texts : List (List ℕ)) (n : ℕ) (text : List ℕ) → text_at texts n ≡ Some text
    → take n texts ++ text ∷ [] ≡ take (suc n) texts
take_text [] n text is = absurd cc
take_text (first ∷ texts) zero text is = let same : first ≡ text = cc in rw same refl
take_text (first ∷ texts) (suc n) text is =
    ap (λ (xs : List (List ℕ)). first ∷ xs) (take_text texts n text is)

-- a message that is due is one of all three
pub due_cases : (accepted served : Bool) (aarq request release : List ℕ) (n : ℕ) (text : List ℕ)
    → text_at (aarq ∷ (if accepted then request ∷ (if served then release ∷ [] else []) else [])) n
    ≡ Some text
    → text_at (aarq ∷ request ∷ release ∷ []) n ≡ Some text
due_cases accepted served aarq request release zero text is = is
due_cases false served aarq request release (suc n) text is = absurd cc
due_cases true served aarq request release (suc zero) text is = is
due_cases true false aarq request release (suc (suc n)) text is = absurd cc
due_cases true true aarq request release (suc (suc n)) text is = is

-- the second message is there only if the association is open
pub has_second : (accepted served : Bool) (aarq request release text : List ℕ)
    → Some text
    ≡ text_at (aarq ∷ (if accepted then request ∷ (if served then release ∷ [] else []) else [])) 1
    → accepted ≡ true
has_second true served aarq request release text is = refl
has_second false served aarq request release text is = absurd cc

-- without a second message the association is not open
pub no_second : (accepted served : Bool) (aarq request release : List ℕ)
    → text_at (aarq ∷ (if accepted then request ∷ (if served then release ∷ [] else []) else [])) 1
    ≡ None
    → accepted ≡ false
no_second true served aarq request release is = absurd cc
no_second false served aarq request release is = refl

-- an element within a list is there
pub get_within : {A : Type 0} (xs : List A) (i : ℕ) → i < length xs → slice_get xs i ≡ None → ⊥
get_within [] i within none = omega arith
get_within (x ∷ xs) zero within none = absurd cc
get_within (x ∷ xs) (suc i) within none = get_within xs i (omega arith) none
