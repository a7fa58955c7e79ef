-- Judging several items: whether any so far had a wrong type, and whether any had a fault.
use Rattle.std.proofs.Common.{◌≡◌, ℕ, ◌+◌, ◌<◌, ◌≤◌, Bool, ◌||◌, cond, List, [], ◌∷◌, length, take, get_or, Result, Ok, Err, is_err, refl, sym, ap, ap₂, ◌∙◌}
use Rattle.std.proofs.Math.Seq.{take_all}
use Rattle.std.proofs.lemmas.List.Folds.{list_any_more}
use Rattle.std.specs.List.{list_any}
use Rattle.std.specs.Result.{result_map_both}
use Rattle.wire_bytes.proofs.OutcomeLemmas.{done}
use Rattle.cosem_names.specs.WriteFault.{is_unmatched, fault_of_items}
use Rattle.cosem_names.specs.declared.write_fault.WriteFault.{WriteFault}
use Rattle.cosem_names.specs.declared.write_fault.WriteFault.TheVariants.{Unmatched, Value, Memory}

-- what was found of the first i items
pub record HasJudged {A B : Type 0} (read : A → Result B WriteFault) (items : List A) (i : ℕ)
    (unmatched faulty : Bool) : Type 0 where
  pub typed : unmatched ≡ list_any (λ item. is_unmatched (read item)) (take i items)
  pub faults : faulty ≡ list_any (λ item. is_err (read item)) (take i items)

-- one more item
pub HasJudged-more : {A B : Type 0} {read : A → Result B WriteFault} {items : List A} {i : ℕ}
    {unmatched faulty : Bool} → HasJudged read items i unmatched faulty
    → (item : A) (given : Result B WriteFault) → i < length items → item ≡ get_or items i item
    → given ≡ read item
    → HasJudged read items (i + 1) (unmatched || is_unmatched given) (faulty || is_err given)
HasJudged-more {read = read} {items = items} {i = i} so_far item given within is read_as = record {
  typed = ap₂ (λ a r. a || is_unmatched r) so_far.typed (read_as ∙ ap read is)
      ∙ sym (list_any_more (λ x. is_unmatched (read x)) items i item within);
  faults = ap₂ (λ a r. a || is_err r) so_far.faults (read_as ∙ ap read is)
      ∙ sym (list_any_more (λ x. is_err (read x)) items i item within);
}

-- after all items, the fault that is reported
pub HasJudged-all : {A B : Type 0} {read : A → Result B WriteFault} {items : List A} {i : ℕ}
    {unmatched faulty : Bool} → HasJudged read items i unmatched faulty
    → length items ≤ i → (r : Result (Unit {0}) WriteFault)
    → cond unmatched (Err Unmatched) (cond faulty (Err Value) (done WriteFault tt)) ≡ r → r
    ≡ fault_of_items read items
unfolding fault_of_items
HasJudged-all {read = read} {items = items} {i = i} judged all r is =
    sym is
    ∙ ap₂ (λ a b. cond a (Err Unmatched) (cond b (Err Value) (done WriteFault tt)))
    (judged.typed ∙ ap (list_any (λ item. is_unmatched (read item))) (take_all i items all))
    (judged.faults ∙ ap (list_any (λ item. is_err (read item))) (take_all i items all))

-- two ways of reading that agree on the fault of each item agree on the fault of several
pub told_alike : {A B C : Type 0} (f : A → Result B WriteFault) (g : A → Result C WriteFault)
    → ((x : A) → is_unmatched (f x) ≡ is_unmatched (g x))
    → ((x : A) → is_err (f x) ≡ is_err (g x)) → (items : List A) → fault_of_items f items
    ≡ fault_of_items g items
unfolding fault_of_items
told_alike {A = A} f g typed faults items =
    ap₂ (λ a b. cond a (Err Unmatched) (cond b (Err Value) (done WriteFault tt)))
    (any_alike (λ x. is_unmatched (f x)) (λ x. is_unmatched (g x)) typed items)
    (any_alike (λ x. is_err (f x)) (λ x. is_err (g x)) faults items)
  where
    any_alike : (p q : A → Bool) → ((x : A) → p x ≡ q x) → (xs : List A) → list_any p xs
        ≡ list_any q xs
    any_alike p q same [] = refl
    any_alike p q same (x ∷ xs) = ap₂ (λ a b. a || b) (same x) (any_alike p q same xs)

-- reading that drops the values reports the same fault
pub told_of_faults : {A B : Type 0} (read : A → Result B WriteFault) (items : List A)
    → fault_of_items (λ x. result_map_both (λ value. tt {0}) (λ fault. fault) (read x)) items
    ≡ fault_of_items read items
told_of_faults {A = A} {B = B} read items = told_alike
    (λ x. result_map_both (λ value. tt {0}) (λ fault. fault) (read x)) read (λ x. typed (read x))
    (λ x. faulty (read x)) items
  where
    typed : (r : Result B WriteFault) → is_unmatched
        (result_map_both (λ value. tt {0}) (λ fault. fault) r) ≡ is_unmatched r
    typed (Ok value) = refl
    typed (Err Unmatched) = refl
    typed (Err Value) = refl
    typed (Err Memory) = refl

    faulty : (r : Result B WriteFault) → is_err
        (result_map_both (λ value. tt {0}) (λ fault. fault) r) ≡ is_err r
    faulty (Ok value) = refl
    faulty (Err fault) = refl
