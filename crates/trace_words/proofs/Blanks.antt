-- Words, each after a blank, written one after the other.
use Rattle.std.proofs.Common.{◌≡◌, ℕ, zero, suc, ◌+◌, ◌<◌, ◌≤◌, List, [], ◌∷◌, ◌++◌, length, drop, get_or, refl, sym, ap, ◌∙◌, append_assoc, append-nil, add-one, arith, drop-cons}
use Rattle.text_lines.specs.Words.{line_of}
use Rattle.trace_words.specs.Rows.{Word, Row}
use Rattle.trace_words.specs.Writing.{words_after_blanks, row_text, all_words, value_words}

-- a line is its first word, followed by each other word after a blank
pub line_of_first : (word : Word) (words : Row) → line_of (word ∷ words) ≡ word
    ++ words_after_blanks words
unfolding line_of
line_of_first word [] = sym (append-nil word)
line_of_first word (next ∷ words) = ap (λ (rest : List ℕ). word ++ 32 ∷ rest)
    (line_of_first next words)

pub row_is_text : (row : Row) → line_of row ≡ row_text row
unfolding line_of
row_is_text [] = refl
row_is_text (word ∷ words) = line_of_first word words

-- words followed by others
pub blanked-append : (words others : Row) → words_after_blanks (words ++ others)
    ≡ words_after_blanks words ++ words_after_blanks others
blanked-append [] others = refl
blanked-append (word ∷ words) others = ap (λ (rest : List ℕ). (32 ∷ word) ++ rest)
    (blanked-append words others) ∙ sym (append_assoc (32 ∷ word) (words_after_blanks words)
    (words_after_blanks others))

-- the words of a value before others are those of the value, followed by the others
abbrev pub Stands : (X : Type 0) → (X → Row → Row) → Type 0
Stands X item = (x : X) (words : Row) → words_after_blanks (item x words)
    ≡ words_after_blanks (item x []) ++ words_after_blanks words

pub value_stands : Stands ℕ value_words
value_stands value words = blanked-append (value_words value []) words

-- what was written, joined with what is still to be written from a place on
pub record Left (X : Type 0) (item : X → Row → Row) (xs : List X) (i : ℕ)
    (out total : List ℕ) : Type 0 where
  pub all : out ++ words_after_blanks (all_words item (drop i xs)) ≡ total

-- one more value is written
pub one_more : {X : Type 0} (item : X → Row → Row) → Stands X item
    → (xs : List X) (i : ℕ) (x d : X) (out new total : List ℕ) → i < length xs → x ≡ get_or xs i d
    → new ≡ out ++ words_after_blanks (item x []) → Left X item xs i out total
    → Left X item xs (i + 1) new total
unfolding all_words
one_more {X} item stands xs i x d out new total lt is written left =
    let next : drop i xs ≡ x ∷ drop (suc i) xs =
    drop-cons xs i d lt ∙ ap (λ (y : X). y ∷ drop (suc i) xs) (sym is) in
    let one : out ++ words_after_blanks (all_words item (drop i xs)) ≡ new
    ++ words_after_blanks (all_words item (drop (suc i) xs)) =
    ap (λ (ys : List X). out ++ words_after_blanks (all_words item ys)) next
    ∙ ap (λ (bs : List ℕ). out ++ bs) (stands x (all_words item (drop (suc i) xs)))
    ∙ sym (append_assoc out (words_after_blanks (item x []))
    (words_after_blanks (all_words item (drop (suc i) xs))))
    ∙ ap (λ (bs : List ℕ). bs ++ words_after_blanks (all_words item (drop (suc i) xs)))
    (sym written) in
    record { all = rw add-one (sym one ∙ left.all) }

-- nothing is written yet
pub none_written : {X : Type 0} (item : X → Row → Row) (xs : List X) (out : List ℕ)
    → Left X item xs 0 out (out ++ words_after_blanks (all_words item xs))
none_written item xs out = record { all = refl }

-- after the last place nothing is left
pub behind_all : {X : Type 0} (xs : List X) (i : ℕ) → length xs ≤ i → drop i xs ≡ []
behind_all [] zero le = refl
behind_all [] (suc i) le = refl
behind_all (x ∷ xs) zero le = absurd (omega arith)
behind_all (x ∷ xs) (suc i) le = behind_all xs i (omega arith)

-- all values are written
pub all_written : {X : Type 0} (item : X → Row → Row) (xs : List X) (i : ℕ) (out total : List ℕ)
    → length xs ≤ i → Left X item xs i out total → out ≡ total
unfolding all_words
all_written {X} item xs i out total le left = sym (append-nil out)
    ∙ ap (λ (ys : List X). out ++ words_after_blanks (all_words item ys)) (sym (behind_all xs i le))
    ∙ left.all
