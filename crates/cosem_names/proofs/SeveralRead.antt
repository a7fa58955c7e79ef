-- Reading several items: a loop that keeps those without a fault, and values that are written and
-- read back.
use Rattle.std.proofs.Common.{◌≡◌, ℕ, ◌+◌, ◌<◌, ◌≤◌, Bool, true, false, ◌||◌, cond, List, [], ◌∷◌, ◌++◌, map, length, take, get_or, Some, None, Result, Ok, Err, is_err, refl, sym, ap, ap₂, ◌∙◌, arith, append-nil, length-append}
use Rattle.std.proofs.lemmas.List.{take_more}
use Rattle.std.proofs.lemmas.List.Elements.{filter_map-append, All-push, All-head, All-tail}
use Rattle.std.specs.List.{All, list_any, cons_option}
use Rattle.std.specs.Result.{result_ok}
use Rattle.wire_bytes.proofs.OutcomeLemmas.{done}
use Rattle.cosem_names.specs.WriteFault.{is_unmatched, fault_of_items, values}
use Rattle.cosem_names.specs.declared.write_fault.WriteFault.{WriteFault}
use Rattle.cosem_names.specs.declared.write_fault.WriteFault.TheVariants.{Unmatched, Value}

-- the values of the first i items
pub record HasRead {A B : Type 0} (read : A → Result B WriteFault) (P : B → Type 0) (items : List A)
    (i : ℕ) (found : List B) : Type 0 where
  pub are : found ≡ values read (take i items)
  pub fit : All P found
  pub few : length found ≤ i

-- the values of one more item
one_more : {A B : Type 0} (read : A → Result B WriteFault) (items : List A) (i : ℕ) (item : A)
    → i < length items → item ≡ get_or items i item
    → values read (take (i + 1) items) ≡ values read (take i items)
    ++ cons_option (result_ok (read item)) []
one_more read items i item within is =
    ap (values read) (take_more items i item within)
    ∙ filter_map-append (λ x. result_ok (read x)) (take i items) (get_or items i item ∷ [])
    ∙ ap (λ x. values read (take i items) ++ cons_option (result_ok (read x)) []) (sym is)

-- an item with a fault adds no value
pub HasRead-none : {A B : Type 0} {read : A → Result B WriteFault} {P : B
    → Type 0} {items : List A} {i : ℕ} {found : List B} → HasRead read P items i found
    → (item : A) → i < length items → item ≡ get_or items i item → result_ok (read item) ≡ None
    → HasRead read P items (i + 1) found
HasRead-none {read = read} {items = items} {i = i} so_far item within is none = record {
  are = so_far.are ∙ sym (append-nil (values read (take i items)))
      ∙ ap (λ o. values read (take i items) ++ cons_option o []) (sym none)
      ∙ sym (one_more read items i item within is);
  fit = so_far.fit;
  few = omega (arith, so_far.few);
}

-- an item without a fault adds its value
pub HasRead-one : {A B : Type 0} {read : A → Result B WriteFault} {P : B
    → Type 0} {items : List A} {i : ℕ} {found : List B} → HasRead read P items i found
    → (item : A) (x : B) → i < length items → item ≡ get_or items i item → result_ok (read item)
    ≡ Some x → P x → HasRead read P items (i + 1) (found ++ x ∷ [])
HasRead-one {read = read} {P = P} {items = items} {i = i} {found = found} so_far item x within is
    some fits = record {
      are = ap (λ xs. xs ++ x ∷ []) so_far.are ∙ ap (λ o. values read (take i items)
          ++ cons_option o []) (sym some) ∙ sym (one_more read items i item within is);
      fit = All-push P found x so_far.fit fits;
      few = omega (arith, so_far.few, length-append found (x ∷ []));
    }

-- no item has a fault, and these are their values
pub record AreRead {A B : Type 0} (read : A → Result B WriteFault) (items : List A)
    (xs : List B) : Type 0 where
  pub typed : list_any (λ item. is_unmatched (read item)) items ≡ false
  pub faultless : list_any (λ item. is_err (read item)) items ≡ false
  pub are : values read items ≡ xs

-- if each written value reads as itself, all of them do
pub all_again : {A B : Type 0} (read : A → Result B WriteFault) (write : B → A) (P : B → Type 0)
    → ((x : B) → P x → read (write x) ≡ Ok x)
    → (xs : List B) → All P xs → AreRead read (map write xs) xs
all_again read write P again [] all = record { typed = refl; faultless = refl; are = refl }
all_again read write P again (x ∷ xs) all =
    let one = again x (All-head P x xs all) in
    let rest = all_again read write P again xs (All-tail P x xs all) in
    record {
      typed = ap₂ (λ r b. is_unmatched r || b) one rest.typed;
      faultless = ap₂ (λ r b. is_err r || b) one rest.faultless;
      are = ap₂ (λ r ys. cons_option (result_ok r) ys) one rest.are;
    }

-- no fault is reported for items without a fault
pub told_again : {A B : Type 0} {read : A → Result B WriteFault} {items : List A} {xs : List B}
    → AreRead read items xs → fault_of_items read items ≡ Ok tt
unfolding fault_of_items
told_again are = ap₂ (λ a b. cond a (Err Unmatched) (cond b (Err Value) (done WriteFault tt)))
    are.typed are.faultless

-- if no fault is reported, no item has one
pub told_ok : {A B : Type 0} (read : A → Result B WriteFault) (items : List A) (u : Unit {0})
    → fault_of_items read items ≡ Ok u → list_any (λ item. is_err (read item)) items ≡ false
unfolding fault_of_items
told_ok read items u e = here (list_any (λ item. is_unmatched (read item)) items)
    (list_any (λ item. is_err (read item)) items) e
  where
    here : (a b : Bool) → cond a (Err Unmatched) (cond b (Err Value) (done WriteFault tt))
        ≡ Ok u → b ≡ false
    here true b e = absurd cc
    here false true e = absurd cc
    here false false e = refl
