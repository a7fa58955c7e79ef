-- The effect of pushing one more item onto a full ring.
use Rattle.std.proofs.Common.{◌≡◌, ℕ, ◌+◌, ◌-◌, ◌<◌, ◌≤◌, Bool, true, false, List, [], ◌∷◌, ◌++◌, length, take, drop, get_or, Option, None, Some, refl, ap, sym, ◌∙◌, arith, ltb-true, ltb-false}
use Rattle.std.specs.Prelude.{nat_lt, slice_get, if◌then◌else◌}
use Rattle.std.specs.Option.{option_to_list}
use Rattle.std.proofs.lemmas.List.{append_assoc, length-drop, length-take-le, length_push, take-append-drop, take_more}
use Rattle.std.proofs.lemmas.Option.{slice_get-get_or, slice_get_within}
use lib.Seq.{take-append-add, drop-append-add}
use Rattle.circular_buffer.specs.Buffer.{keep_last}
use Rattle.relay_recorder.specs.Recording.{all_but_last}

module _ {X : Type 0} where
  -- the list with one more item is its items before the last n, then the last n, then the new item
  parted : (n : ℕ) (xs : List X) (x : X) → xs ++ x ∷ [] ≡ all_but_last n xs
      ++ (keep_last n xs ++ x ∷ [])
  parted n xs x =
      ap (λ l. l ++ x ∷ []) (sym (take-append-drop (length xs - n) xs))
      ∙ append_assoc (all_but_last n xs) (keep_last n xs) (x ∷ [])

  -- where the last n items begin, in terms of the parts before the push
  cut_at : (n : ℕ) (xs : List X) (x : X) → length (xs ++ x ∷ []) - n ≡ length (all_but_last n xs)
      + (length (keep_last n xs ++ x ∷ []) - n)
  cut_at n xs x =
      let within : length xs - n ≤ length xs = omega arith in
      omega (
        arith,
        length_push xs x,
        length_push (keep_last n xs) x,
        length-drop (length xs - n) xs,
        length-take-le (length xs - n) xs within,
      )

  -- the last n items of a longer list are those of its last n items and the new one
  pub keep_last-more : (n : ℕ) (xs : List X) (x : X) → keep_last n (xs ++ x ∷ [])
      ≡ keep_last n (keep_last n xs ++ x ∷ [])
  keep_last-more n xs x =
      (λ i. drop (cut_at n xs x i) (parted n xs x i))
      ∙ drop-append-add (all_but_last n xs) (keep_last n xs ++ x
      ∷ []) (length (keep_last n xs ++ x ∷ []) - n)

  -- the items before the last n of a longer list: those before, then those that the new item pushes
  -- out
  pub all_but_last-more : (n : ℕ) (xs : List X) (x : X)
      → all_but_last n (xs ++ x ∷ []) ≡ all_but_last n xs
      ++ all_but_last n (keep_last n xs ++ x ∷ [])
  all_but_last-more n xs x =
      (λ i. take (cut_at n xs x i) (parted n xs x i))
      ∙ take-append-add (all_but_last n xs) (keep_last n xs ++ x
      ∷ []) (length (keep_last n xs ++ x ∷ []) - n)

  first_item : (xs : List X) → take 1 xs ≡ option_to_list (slice_get xs 0)
  first_item [] = refl
  first_item (x ∷ xs) = refl

  no_item : (xs : List X) → take 0 xs ≡ []
  no_item [] = refl
  no_item (x ∷ xs) = refl

  pushed_by : (n : ℕ) (xs : List X) (x : X) (r : Option X) (b : Bool) → nat_lt (length xs) n ≡ b
      → length xs ≤ n
      → r ≡ (if b then None else slice_get (xs ++ x ∷ []) 0)
      → all_but_last n (xs ++ x ∷ []) ≡ option_to_list r
  pushed_by n xs x r true test within is =
      let none : length (xs ++ x ∷ []) - n ≡ 0 =
      omega (arith, length_push xs x, ltb-true (length xs) n test) in
      ap (λ k. take k (xs ++ x ∷ [])) none ∙ no_item (xs ++ x ∷ []) ∙ ap option_to_list (sym is)
  pushed_by n xs x r false test within is =
      let one : length (xs ++ x ∷ []) - n ≡ 1 =
      omega (arith, length_push xs x, ltb-false (length xs) n test) in
      ap (λ k. take k (xs ++ x ∷ [])) one ∙ first_item (xs ++ x ∷ []) ∙ ap option_to_list (sym is)

  -- the item that a push returns is the one that it pushes out
  pub pushed_out : (n : ℕ) (xs : List X) (x : X) (r : Option X) → length xs ≤ n
      → r ≡ (if nat_lt (length xs) n then None else slice_get (xs ++ x ∷ []) 0)
      → all_but_last n (xs ++ x ∷ []) ≡ option_to_list r
  pushed_out n xs x r within is = pushed_by n xs x r (nat_lt (length xs) n) refl within is

  -- the first i + 1 items are the first i and the item at i
  pub take_got : (xs : List X) (i : ℕ) (x : X) → slice_get xs i ≡ Some x → take (i + 1) xs
      ≡ take i xs ++ x ∷ []
  take_got xs i x got =
      let below : i < length xs = slice_get_within xs i x got in
      let same : get_or xs i x ≡ x = cc (slice_get-get_or xs i x below, got) in
      take_more xs i x below ∙ ap (λ y. take i xs ++ y ∷ []) same
