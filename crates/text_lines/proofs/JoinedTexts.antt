-- A text whose last line is ended, and the text that follows it.
use Rattle.std.proofs.Common.{◌≡◌, ℕ, ◌<◌, Bool, true, false, cond, List, [], ◌∷◌, ◌++◌, length, refl, sym, ap, ◌∙◌, arith}
use Rattle.std.specs.List.{onto_first}
use Rattle.std.proofs.lemmas.List.{length-append}
use Rattle.text_lines.specs.Parts.{parts_at}
use Rattle.text_lines.specs.Lines.{all_but_last, last_of, lines_of, unended_of}
use Rattle.text_lines.proofs.Cuts.{is_byte, parts_some}
use Rattle.text_lines.proofs.LinesLemmas.{all_but_last-cons, last_of-cons}

-- if parts follow, none of these is the last
all_but_last-append : (parts others : List (List ℕ)) → 0 < length others
    → all_but_last (parts ++ others) ≡ parts ++ all_but_last others
all_but_last-append [] others some = refl
all_but_last-append (part ∷ parts) others some =
    all_but_last-cons part (parts ++ others) (omega (arith, length-append parts others))
    ∙ ap (λ (ps : List (List ℕ)). part ∷ ps) (all_but_last-append parts others some)

last_of-append : (parts others : List (List ℕ)) → 0 < length others → last_of (parts ++ others)
    ≡ last_of others
last_of-append [] others some = refl
last_of-append (part ∷ parts) others some =
    last_of-cons part (parts ++ others) (omega (arith, length-append parts others))
    ∙ last_of-append parts others some

-- one more byte at the front of the first part: if nothing follows the last cut, the first part is
-- not the last
last_onto : (x : ℕ) (parts : List (List ℕ)) → last_of (onto_first x parts) ≡ [] → last_of parts ≡ []
last_onto x [] none = refl
last_onto x (part ∷ []) none = absurd cc
last_onto x (part ∷ next ∷ parts) none = none

front_onto : (x : ℕ) (parts others : List (List ℕ)) → 0 < length parts
    → last_of (onto_first x parts) ≡ []
    → onto_first x (all_but_last parts ++ others) ≡ all_but_last (onto_first x parts) ++ others
front_onto x [] others some none = absurd (omega arith)
front_onto x (part ∷ []) others some none = absurd cc
front_onto x (part ∷ next ∷ parts) others some none = refl

-- the parts of a text with one more byte at the front
abbrev parts_with : Bool → ℕ → List (List ℕ) → List (List ℕ)
parts_with cut x parts = cond cut ([] ∷ parts) (onto_first x parts)

cut_step : (cut : Bool) (x : ℕ) (parts whole others : List (List ℕ)) → 0 < length parts
    → last_of (parts_with cut x parts) ≡ []
    → (last_of parts ≡ [] → whole ≡ all_but_last parts ++ others) → parts_with cut x whole
    ≡ all_but_last (parts_with cut x parts) ++ others
cut_step true x parts whole others some none later =
    ap (λ (ps : List (List ℕ)). [] ∷ ps) (later (sym (last_of-cons [] parts some) ∙ none))
    ∙ ap (λ (ps : List (List ℕ)). ps ++ others) (sym (all_but_last-cons [] parts some))
cut_step false x parts whole others some none later =
    ap (onto_first x) (later (last_onto x parts none)) ∙ front_onto x parts others some none

-- the parts of a text that ends with the byte 0A, or is empty, followed by another text
parts_joined : (text rest : List ℕ) → last_of (parts_at 10 text) ≡ [] → parts_at 10 (text ++ rest)
    ≡ all_but_last (parts_at 10 text) ++ parts_at 10 rest
parts_joined [] rest none = refl
parts_joined (x ∷ text) rest none =
    cut_step (is_byte 10 x) x (parts_at 10 text) (parts_at 10 (text ++ rest)) (parts_at 10 rest)
    (parts_some 10 text) none (parts_joined text rest)

-- the lines of both, and the text after the last of them
pub lines_joined : (text rest : List ℕ) → unended_of text ≡ [] → lines_of (text ++ rest)
    ≡ lines_of text ++ lines_of rest
unfolding lines_of unended_of
lines_joined text rest ended =
    ap all_but_last (parts_joined text rest ended)
    ∙ all_but_last-append (all_but_last (parts_at 10 text)) (parts_at 10 rest)
    (parts_some 10 rest)

pub unended_joined : (text rest : List ℕ) → unended_of text ≡ [] → unended_of (text ++ rest)
    ≡ unended_of rest
unfolding unended_of
unended_joined text rest ended =
    ap last_of (parts_joined text rest ended)
    ∙ last_of-append (all_but_last (parts_at 10 text)) (parts_at 10 rest) (parts_some 10 rest)
