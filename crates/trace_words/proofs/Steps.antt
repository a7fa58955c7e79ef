-- Values read one after the other up to the end of a line by a loop.
use Rattle.std.proofs.Common.{◌≡◌, ℕ, zero, suc, ◌-◌, ◌+◌, ◌≤◌, ◌<◌, List, [], ◌∷◌, ◌++◌, length, Result, Ok, Err, refl, sym, ap, ◌∙◌, append_assoc, append-nil, length-append, arith, inl, inr}
use Rattle.wire_bytes.specs.Outcome.{◌>>=◌, Fails}
use Rattle.wire_bytes.proofs.OutcomeLemmas.{done, Fails-then}
use Rattle.trace_words.specs.Parts.{Part, after_first, items_to_end}
use Rattle.trace_words.specs.Rows.{Word, Row, Read, all_at}
use Rattle.trace_words.specs.declared.fault.RowFault.{RowFault}
use Rattle.trace_words.specs.declared.fault.RowFault.TheVariants.{Wrong, Memory}

-- what was read before, joined with what is still to be read
abbrev pub with_front : {X : Type 0} → List X → Result (List X) RowFault → Result (List X) RowFault
with_front front read = read >>= λ others. Ok (front ++ others)

-- a loop has read these values, at most `max`, and the words that are left give the others
pub record SoFar (X : Type 0) (item_from : Word → Row → Read X) (max : ℕ) (front : List X)
    (words : Row) (total : Result (List X) RowFault) : Type 0 where
  pub few : length front ≤ max
  pub all : with_front front (all_at item_from (max - length front) words) ≡ total

-- one value moves from those still to be read to those read
regroup : {X : Type 0} (front : List X) (d : X) (read : Result (List X) RowFault)
    → with_front front (read >>= λ others. Ok (d ∷ others)) ≡ with_front (front ++ d ∷ []) read
regroup front d (Ok x) = ap (done RowFault) (sym (append_assoc front (d ∷ []) x))
regroup front d (Err fault) = refl

-- nothing has been read
pub none_yet : {X : Type 0} (item_from : Word → Row → Read X) (max : ℕ) (words : Row)
    → SoFar X item_from max [] words (all_at item_from max words)
none_yet item_from max words =
    let k : max - 0 ≡ max = omega arith in
    record { few = omega arith; all = rw k (same (all_at item_from max words)) }
  where
    same : {Y : Type 0} (r : Result (List Y) RowFault) → with_front [] r ≡ r
    same (Ok x) = refl
    same (Err fault) = refl

-- one more value
pub goes_on : {X : Type 0} (item_from : Word → Row → Read X) (max : ℕ) (front : List X) (old : Row)
    (word : Word) (words : Row) (d : X) (after : Row) (total : Result (List X) RowFault)
    → old ≡ word ∷ words → (length front ≡ max → ⊥) → item_from word words ≡ Ok (d, after)
    → SoFar X item_from max front old total
    → SoFar X item_from max (front ++ d ∷ []) after total
unfolding all_at
goes_on {X} item_from max front old word words d after total is more h so_far =
    let few : length front ≤ max = so_far.few in
    let lt : length front < max = omega arith in
    let len : length (front ++ d ∷ []) ≡ length front + 1 = length-append front (d ∷ []) in
    let k : max - length front ≡ suc (max - length (front ++ d ∷ [])) = omega arith in
    let one : with_front front (all_at item_from (max - length front) old)
    ≡ with_front (front ++ d ∷ []) (all_at item_from (max - length (front ++ d ∷ [])) after) =
    rw (k, is, h) (regroup front d (all_at item_from (max - length (front ++ d ∷ [])) after)) in
    record { few = omega arith; all = sym one ∙ so_far.all }

-- a value that is refused ends the reading
pub refused : {X : Type 0} (item_from : Word → Row → Read X) (max : ℕ) (fault : RowFault)
    (front : List X) (old : Row) (word : Word) (words : Row) (total : Result (List X) RowFault)
    → old ≡ word ∷ words → (length front ≡ max → ⊥) → Fails Memory fault (item_from word words)
    → SoFar X item_from max front old total → Fails Memory fault total
unfolding all_at
refused item_from max fault front old word words total is more (inl memory) so_far = inl memory
refused item_from max fault front old word words total is more (inr h) so_far =
    let few : length front ≤ max = so_far.few in
    let k : max - length front ≡ suc (max - length front - 1) = omega arith in
    let one : with_front front (all_at item_from (max - length front) old) ≡ Err fault =
    rw (k, is, h) refl in
    inr (sym so_far.all ∙ one)

-- one word more than the maximum number of values
pub too_many : {X : Type 0} (item_from : Word → Row → Read X) (max : ℕ) (front : List X) (old : Row)
    (word : Word) (words : Row) (total : Result (List X) RowFault)
    → old ≡ word ∷ words → length front ≡ max → SoFar X item_from max front old total
    → total ≡ Err Wrong
unfolding all_at
too_many item_from max front old word words total is full so_far =
    let k : max - length front ≡ 0 = omega arith in
    let one : with_front front (all_at item_from (max - length front) old) ≡ Err Wrong =
    rw (k, is) refl in
    sym so_far.all ∙ one

-- no word is left
pub is_done : {X : Type 0} (item_from : Word → Row → Read X) (max : ℕ) (front : List X) (old : Row)
    (total : Result (List X) RowFault) → old ≡ [] → SoFar X item_from max front old total
    → total ≡ Ok front
unfolding all_at
is_done {X} item_from max front old total is so_far =
    let one : with_front front (all_at item_from (max - length front) old) ≡ Ok front =
    rw is (at_end (max - length front)) in
    sym so_far.all ∙ one
  where
    at_end : (room : ℕ) → with_front front (all_at item_from room []) ≡ Ok front
    at_end zero = ap (done RowFault) (append-nil front)
    at_end (suc room) = ap (done RowFault) (append-nil front)

-- ---- items up to the end of a line

-- the items that a loop has read, and those that are left
abbrev pub ItemsSoFar : {A : Type 0} → Part A → ℕ → List A → Row → Row → Type 0
ItemsSoFar {A = A} item max front words start =
    SoFar A (after_first item) max front words (all_at (after_first item) max start)

-- one word more than the maximum number of items
pub items_too_many : {A : Type 0} (item : Part A) (max : ℕ) (front : List A) (old : Row)
    (word : Word) (words start : Row) → old ≡ word ∷ words → length front ≡ max
    → ItemsSoFar item max front old start → Fails Memory Wrong ((items_to_end max item).read start)
items_too_many item max front old word words start is full so_far =
    Fails-then Memory Wrong (all_at (after_first item) max start) (λ items. Ok (items, []))
    (inr (too_many (after_first item) max front old word words
    (all_at (after_first item) max start) is full so_far))

-- an item that is refused
pub items_refused : {A : Type 0} (item : Part A) (max : ℕ) (fault : RowFault) (front : List A)
    (old : Row) (word : Word) (words start : Row) → old ≡ word ∷ words → (length front ≡ max → ⊥)
    → Fails Memory fault (after_first item word words) → ItemsSoFar item max front old start
    → Fails Memory fault ((items_to_end max item).read start)
items_refused item max fault front old word words start is more fails so_far =
    Fails-then Memory fault (all_at (after_first item) max start) (λ items. Ok (items, []))
    (refused (after_first item) max fault front old word words
    (all_at (after_first item) max start) is more fails so_far)

-- no word is left
pub items_done : {A : Type 0} (item : Part A) (max : ℕ) (front : List A) (old start : Row)
    → old ≡ [] → ItemsSoFar item max front old start
    → (items_to_end max item).read start ≡ Ok (front, [])
items_done item max front old start is so_far =
    let read = is_done (after_first item) max front old (all_at (after_first item) max start) is
    so_far in
    rw read refl
