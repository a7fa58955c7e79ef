-- Consecutive items: their laws, and the loop that reads them.
--     items_lawful                              a number of items of a lawful format
--     with_front, goes_on, ends, is_done        items read by a loop
use Rattle.std.proofs.Common.{◌≡◌, ℕ, zero, suc, ◌-◌, ◌+◌, ◌≤◌, ◌<◌, All, List, [], ◌∷◌, ◌++◌}
use Rattle.std.proofs.Common.{length, Result, Ok, Err, refl, sym, ap, subst, ◌∙◌, append_assoc}
use Rattle.std.proofs.Common.{append-nil, arith, inl, inr}
use Rattle.std.specs.List.{flat_map}
use Rattle.std.proofs.lemmas.List.Elements.{All-nil, All-cons, All-head, All-tail}
use Rattle.wire_bytes.specs.Outcome.{Fails}
use Rattle.wire_bytes.specs.Reading.{read_as}
use Rattle.wire_bytes.specs.Format.{Format, items_read, AreItems, items}
use Rattle.wire_bytes.proofs.Lawful.{Took, join, AreAll, parts_all, IsLawful}
use Rattle.wire_bytes.proofs.OutcomeLemmas.{ok_is, bind_ok}

-- ---- laws

module _ {T F A : Type 0} {IsToken : T → Type 0} (item : Format T F A)
    (lawful : IsLawful IsToken item) where
  items_take : (n : ℕ) (tokens : List T) (x : List A × List T)
      → items_read item.read n tokens ≡ Ok x → Took (List A) (items item n).Spells tokens x
  unfolding items_read
  items_take zero tokens x e =
      subst (λ (z : List A × List T). Took (List A) (items item 0).Spells tokens z)
      (ok_is {F = F} ([], tokens) x e)
      (record { text = []; parts = refl; spelled = (refl, refl) })
  items_take (suc n) tokens x e =
      let first = bind_ok (item.read tokens) _ x e in
      let others = bind_ok (items_read item.read n first.0.1) _ x first.2 in
      let s = lawful.agrees.takes tokens first.0 first.1 in
      let t = items_take n first.0.1 others.0 others.1 in
      subst (λ (z : List A × List T). Took (List A) (items item (suc n)).Spells tokens z)
      (ok_is {F = F} (first.0.0 ∷ others.0.0, others.0.1) x others.2) (record {
        text = s.text ++ t.text;
        parts = rw (append_assoc s.text t.text others.0.1)
            (s.parts ∙ ap (λ (r : List T). s.text ++ r) t.parts);
        spelled = (ap suc t.spelled.0, join s.text t.text s.spelled t.spelled.1);
      })

  items_again : (xs : List A) (text rest : List T) → AreItems item.Spells xs text
      → items_read item.read (length xs) (text ++ rest) ≡ Ok (xs, rest)
  unfolding items_read
  items_again [] text rest s = rw s refl
  items_again (x ∷ xs) text rest j = rw (
    j.parts,
    append_assoc j.first j.others rest,
    lawful.agrees.again x j.first (j.others ++ rest) j.is_first,
    items_again xs j.others rest j.are_others,
  ) refl

  items_written : (xs : List A) → All item.Fits xs
      → AreItems item.Spells xs (flat_map item.text xs)
  items_written [] fit = refl
  items_written (x ∷ xs) fit =
      join (item.text x) (flat_map item.text xs)
      (lawful.written x (All-head item.Fits x xs fit))
      (items_written xs (All-tail item.Fits x xs fit))

  items_fit : (xs : List A) (text : List T) → AreAll IsToken text → AreItems item.Spells xs text
      → All item.Fits xs
  items_fit [] text all s = All-nil item.Fits
  items_fit (x ∷ xs) text all j =
      let parts = parts_all IsToken all j in
      All-cons item.Fits x xs (lawful.fitting x j.first parts.0 j.is_first)
      (items_fit xs j.others parts.1 j.are_others)

  pub items_lawful : (n : ℕ) → IsLawful IsToken (items item n)
  items_lawful n = record {
    agrees = record {
      takes = items_take n;
      again = λ xs text rest s. rw (sym s.0) (items_again xs text rest s.1);
    };
    written = λ xs fit. (fit.0, items_written xs fit.1);
    fitting = λ xs text all s. (s.0, items_fit xs text all s.1);
  }

-- ---- items read by a loop

-- the items read before, followed by those that are still to be read
abbrev pub with_front : {S F A : Type 0} → List A → Result (List A × S) F → Result (List A × S) F
with_front front read = read_as (λ others. front ++ others) read

module _ {S F A : Type 0} (read : S → Result (A × S) F) where
  -- the loop continues after an item
  pub goes_on : (front : List A) (count i : ℕ) (tokens : S) (x : A) (after : S)
      (total : Result (List A × S) F) → i < count → read tokens ≡ Ok (x, after)
      → with_front front (items_read read (count - i) tokens) ≡ total
      → with_front (front ++ x ∷ []) (items_read read (count - (i + 1)) after) ≡ total
  unfolding items_read
  goes_on front count i tokens x after total lt h so_far =
      let k : count - i ≡ suc (count - (i + 1)) = omega arith in
      let one : with_front front (items_read read (count - i) tokens)
      ≡ with_front (front ++ x ∷ []) (items_read read (count - (i + 1)) after) =
      rw (k, h) (regroup (items_read read (count - (i + 1)) after)) in
      sym one ∙ so_far
    where
      regroup : (others : Result (List A × S) F)
          → with_front front (read_as (λ xs. x ∷ xs) others) ≡ with_front (front ++ x ∷ []) others
      regroup (Ok y) = rw append_assoc refl
      regroup (Err fault) = refl

  -- the loop ends with the fault of an item
  pub ends : (memory fault : F) (front : List A) (count i : ℕ) (tokens : S)
      (total : Result (List A × S) F) → i < count → Fails memory fault (read tokens)
      → with_front front (items_read read (count - i) tokens) ≡ total → Fails memory fault total
  unfolding items_read
  ends memory fault front count i tokens total lt (inl out) so_far = inl out
  ends memory fault front count i tokens total lt (inr h) so_far =
      let k : count - i ≡ suc (count - (i + 1)) = omega arith in
      let one : with_front front (items_read read (count - i) tokens) ≡ Err fault =
      rw (k, h) refl in
      inr (sym so_far ∙ one)

  -- the loop ends when no item is left
  pub is_done : (front : List A) (count i : ℕ) (tokens : S) (total : Result (List A × S) F)
      → count ≤ i → with_front front (items_read read (count - i) tokens) ≡ total
      → total ≡ Ok (front, tokens)
  unfolding items_read
  is_done front count i tokens total le so_far =
      let k : count - i ≡ 0 = omega arith in
      let one : with_front front (items_read read (count - i) tokens) ≡ Ok (front, tokens) =
      rw (k, append-nil front) refl in
      sym so_far ∙ one

-- what proves such a loop, but for its exit with the fault of an item (`ends`)
pub ruleset item_loops = (goes_on, is_done)
