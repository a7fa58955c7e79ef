-- The state at the end of a loop over items.
use Rattle.std.proofs.Common.{◌≡◌, ℕ, ◌+◌, ◌≤◌, min, arith, List, ◌++◌, length, drop, sym, ap, ◌∙◌, append_assoc, append-nil, drop_of_length-le}
use Rattle.cosem_axdr.specs.Spelling.{length_text, texts}
use Rattle.cosem_axdr.specs.Tree.{trees_of, count_of}
use Rattle.cosem_axdr.specs.View.{all_trees}
use Rattle.cosem_axdr.specs.declared.value.Data.{Data}
use Rattle.cosem_axdr.proofs.OneTree.{count_of-trees_of}

-- the texts of consecutive values
abbrev all_texts : List Data → List ℕ
all_texts ds = texts (trees_of (all_trees ds))

-- with no item left, the count and all items are written
pub counted_is_written : (old behind_count new : List ℕ) (ds : List Data) (i : ℕ) → length ds ≤ i
    → behind_count ≡ old ++ length_text (length ds) → new ++ all_texts (drop i ds) ≡ behind_count
    ++ all_texts ds
    → new ≡ old ++ (length_text (count_of (trees_of (all_trees ds))) ++ all_texts ds)
counted_is_written old behind_count new ds i past count so_far =
    let none : new ++ all_texts (drop i ds) ≡ new =
    ap (λ (es : List Data). new ++ all_texts es) (drop_of_length-le ds past) ∙ append-nil new in
    let joined : behind_count ++ all_texts ds ≡ old
    ++ (length_text (length ds) ++ all_texts ds) = ap (λ (s : List ℕ). s ++ all_texts ds) count
    ∙ append_assoc old (length_text (length ds)) (all_texts ds) in
    sym none ∙ so_far ∙ joined ∙ ap (λ (n : ℕ). old ++ (length_text n ++ all_texts ds))
    (sym (count_of-trees_of ds))

-- with no item left, all are counted
pub all_are_counted : (len most : ℕ) (ds : List Data) (i : ℕ) → length ds ≤ i → len ≤ most
    → min (len + length (all_texts (drop i ds))) most ≡ min (length (all_texts ds)) most → len
    ≡ min (length (all_texts ds)) most
all_are_counted len most ds i past below so_far =
    let none : length (all_texts (drop i ds)) ≡ 0 =
    ap (λ (es : List Data). length (all_texts es)) (drop_of_length-le ds past) in
    omega arith
