-- A line with a fixed first word that was read is written back as that line.
use Rattle.std.proofs.Common.{◌≡◌, nat_eq, [], ◌∷◌, Result, Ok, ap, ◌∙◌}
use Rattle.std.specs.Cmp.Lexicographic.{pointwise}
use Rattle.wire_bytes.proofs.OutcomeLemmas.{ok_is, bind_ok, guard_ok}
use Rattle.trace_words.proofs.WordsBack.{IsWrittenBack, same_is, last_read}
use Rattle.trace_words.specs.Labels.{words_after, labelled_value}
use Rattle.trace_words.specs.Rows.{Word, Row}
use Rattle.trace_words.specs.declared.fault.RowFault.{RowFault}
use Rattle.trace_words.specs.declared.fault.RowFault.TheVariants.{Wrong}

-- the first word is this one
pub behind_back : (name : Word) (row : Row) (u : Unit {0}) (words : Row) → words_after name row
    ≡ Ok (u, words) → row ≡ name ∷ words
unfolding words_after
behind_back name [] u words e = absurd cc
behind_back name (word ∷ others) u words e =
    let same = guard_ok (pointwise nat_eq word name) Wrong _ (u, words) e in
    ap (λ (w : Word). w ∷ others) (same_is word name same.0)
    ∙ ap (λ (p : Unit {0} × Row). name ∷ p.1) (ok_is (tt, others) (u, words) same.1)

-- a line of a first word and one value
pub labelled_read : (X : Type 0) (name : Word) (value_in : Word → Result X RowFault) (row : Row)
    (x : X) → labelled_value name value_in row ≡ Ok x
    → (word : Word) × (row ≡ name ∷ word ∷ []) × (value_in word ≡ Ok x)
labelled_read X name value_in row x e =
    let words = bind_ok (words_after name row) _ x e in
    let read = last_read X value_in words.0.1 x words.2 in (
      read.0,
      behind_back name row words.0.0 words.0.1 words.1 ∙ ap (λ (ws : Row). name ∷ ws) read.1,
      read.2,
    )

-- each line from which a value is read is the line that is written for it
abbrev pub IsRowBack : (X : Type 0) → (Row → Result X RowFault) → (X → Row) → Type 0
IsRowBack X value_in row_of = (row : Row) (x : X) → value_in row ≡ Ok x → row ≡ row_of x

pub labelled_back : (X : Type 0) (name : Word) (value_in : Word → Result X RowFault) (word_of : X
    → Word) → IsWrittenBack X value_in word_of
    → IsRowBack X (labelled_value name value_in) (λ x. name ∷ word_of x ∷ [])
labelled_back X name value_in word_of back row x e =
    let read = labelled_read X name value_in row x e in
    read.1 ∙ ap (λ (w : Word). name ∷ w ∷ []) (back read.0 x read.2)
