-- What holds of a table that was judged.
use Rattle.std.proofs.Common.{◌≡◌, ℕ, ◌==◌, ◌≤◌, Bool, true, false, not, ◌&&◌, ◌||◌, cond, nat_le, List, [], ◌∷◌, length, Option, Some, None, IfSome, ok_or, Result, Ok, Err, is_err, option_map, unwrap_or, refl, sym, ap, ap₂, ◌∙◌, arith, rules, tests}
use Rattle.std.proofs.lemmas.List.Elements.{All-head, All-tail}
use Rattle.std.specs.List.{All, list_any, find, cons_option}
use Rattle.std.specs.Result.{result_ok}
use Rattle.wire_bytes.specs.Outcome.{◌>>◌, guard}
use Rattle.wire_bytes.proofs.OutcomeLemmas.{bind_ok, guard_ok, done, ok_is}
use Rattle.cosem_axdr.specs.declared.value.Data.{Data}
use Rattle.cosem_names.proofs.SeveralRead.{told_ok}
use Rattle.script_steps.specs.Forms.{script_parts_of, identifier_of}
use Rattle.cosem_names.specs.WriteFault.{fault_of_items, values}
use Rattle.script_steps.specs.Reading.{max_scripts, max_steps, step_of, script_of, judged_script, judged_scripts, are_distinct}
use Rattle.script_steps.specs.Table.{IsScript, IsTable}
use Rattle.cosem_names.specs.declared.write_fault.WriteFault.{WriteFault}
use Rattle.cosem_names.specs.declared.write_fault.WriteFault.TheVariants.{Unmatched, Value}
use Rattle.script_steps.specs.declared.step.Script.{Script}

found_or_rest : {A : Type 0} (P : A → Type 0) (b : Bool) (x : A) (rest : Option A) → P x
    → IfSome rest P → IfSome (cond b (Some x) rest) P
found_or_rest P true x rest here there = here
found_or_rest P false x rest here there = there

-- what holds of all items holds of the one that is found
pub found_fits : {A : Type 0} (P : A → Type 0) (p : A → Bool) (xs : List A) → All P xs
    → IfSome (find p xs) P
found_fits P p [] all = tt
found_fits P p (x ∷ xs) all = found_or_rest P (p x) x (find p xs) (All-head P x xs all)
    (found_fits P p xs (All-tail P x xs all))

-- the parts of the Data that a script was made from
pub judged_parts : (value : Data) (parts : ℕ × List Data) → judged_script value ≡ Ok parts
    → script_parts_of value ≡ Some parts
unfolding judged_script
judged_parts value parts e =
    let b = bind_ok (ok_or (script_parts_of value) Unmatched)
    (λ p. fault_of_items step_of p.1 >> (guard (not (p.0 == 0) && nat_le (length p.1) max_steps)
    Value >> Ok p)) parts e in
    let t = bind_ok (fault_of_items step_of b.0.1)
    (λ _. guard (not (b.0.0 == 0) && nat_le (length b.0.1) max_steps) Value >> Ok b.0) parts b.2
    in
    let g = guard_ok (not (b.0.0 == 0) && nat_le (length b.0.1) max_steps) Value
    (done WriteFault b.0) parts t.2 in
    there (script_parts_of value) b.0 b.1 ∙ ap (λ p. Some p) (ok_is {F = WriteFault} b.0 parts g.1)
  where
    there : (o : Option (ℕ × List Data)) (p : ℕ × List Data) → ok_or o Unmatched ≡ Ok p → o ≡ Some p
    there None p e = absurd cc
    there (Some q) p e = cc

-- a script has the identifier that its Data names
pub named : (value : Data) (script : Script) → script_of value ≡ Ok script → script.identifier
    ≡ identifier_of value
unfolding script_of
named value script e =
    let b = bind_ok (judged_script value) (λ parts. done WriteFault
    (record { identifier = parts.0; steps = values step_of parts.1 })) script e in
    let same = ok_is {F = WriteFault} (record { identifier = b.0.0; steps = values step_of b.0.1 })
    script b.2 in
    sym (ap (λ (s : Script). s.identifier) same)
    ∙ sym (ap (λ o. unwrap_or (option_map (λ (parts : ℕ × List Data). parts.0) o) 0)
    (judged_parts value b.0 b.1))

-- if no item has a fault, neither the first nor any other has one
first_read : (b : Bool) (rest : Bool) → b || rest ≡ false → (b ≡ false) × (rest ≡ false)
first_read true rest e = absurd cc
first_read false rest e = (refl, e)

-- an item without a fault is a script
is_read : (r : Result Script WriteFault) → is_err r ≡ false → (script : Script) × (r ≡ Ok script)
is_read (Ok script) e = (script, refl)
is_read (Err fault) e = absurd cc

-- the scripts of several items, the first of which is a script
first_script : (item : Data) (items : List Data) (script : Script) → script_of item ≡ Ok script
    → values script_of (item ∷ items) ≡ script ∷ values script_of items
first_script item items script e = ap (λ r. cons_option (result_ok r) (values script_of items)) e

-- an item has an identifier exactly if a script has it
same_among : (items : List Data) (n : ℕ) → list_any (λ item. is_err (script_of item)) items ≡ false
    → list_any (λ item. identifier_of item == n) items
    ≡ list_any (λ script. script.identifier == n) (values script_of items)
same_among [] n none = refl
same_among (item ∷ items) n none =
    let split = first_read (is_err (script_of item))
    (list_any (λ i. is_err (script_of i)) items) none in
    let read = is_read (script_of item) split.0 in
    ap₂ (λ (m : ℕ) (rest : Bool). (m == n) || rest) (sym (named item read.0 read.1))
    (same_among items n split.1)
    ∙ ap (λ scripts. list_any (λ script. script.identifier == n) scripts)
    (sym (first_script item items read.0 read.1))

-- the items have different identifiers exactly if their scripts have
pub same_distinct : (items : List Data) → list_any (λ item. is_err (script_of item)) items ≡ false
    → are_distinct identifier_of items ≡ are_distinct (λ script. script.identifier)
    (values script_of items)
same_distinct [] none = refl
same_distinct (item ∷ items) none =
    let split = first_read (is_err (script_of item))
    (list_any (λ i. is_err (script_of i)) items) none in
    let read = is_read (script_of item) split.0 in
    ap₂ (λ (b rest : Bool). not b && rest) (same_among items (identifier_of item) split.1)
    (same_distinct items split.1)
    ∙ ap (λ n. not (list_any (λ script. script.identifier == n) (values script_of items))
    && are_distinct (λ script. script.identifier) (values script_of items))
    (sym (named item read.0 read.1))
    ∙ ap (λ scripts. are_distinct (λ script. script.identifier) scripts)
    (sym (first_script item items read.0 read.1))

-- there are at most as many scripts as items
few_values : (items : List Data) → length (values script_of items) ≤ length items
few_values [] = omega arith
few_values (item ∷ items) = here (result_ok (script_of item)) (few_values items)
  where
    here : (o : Option Script) → length (values script_of items) ≤ length items
        → length (cons_option o (values script_of items)) ≤ length (item ∷ items)
    here None fewer = omega arith
    here (Some script) fewer = omega arith

-- both tests hold
both : (a b : Bool) → a && b ≡ true → (a ≡ true) × (b ≡ true)
both true b e = (refl, e)
both false b e = absurd cc

-- the scripts of judged items are a table
pub table_fits : (items : List Data) (u : Unit {0}) (scripts : List Script) → judged_scripts items
    ≡ Ok u → scripts ≡ values script_of items → All IsScript scripts → IsTable scripts
unfolding judged_scripts
table_fits items u scripts e is fit =
    let t = bind_ok (fault_of_items script_of items) (λ _. guard (nat_le (length items) max_scripts
    && are_distinct identifier_of items) Value) u e in
    let g = here (nat_le (length items) max_scripts && are_distinct identifier_of items) u t.2 in
    let halves = both (nat_le (length items) max_scripts) (are_distinct identifier_of items) g in
    let few : length items ≤ max_scripts = search (rules, tests) in
    record {
      few = omega (arith, few, few_values items, ap (λ (xs : List Script). length xs) is);
      distinct = ap (λ (xs : List Script). are_distinct (λ script. script.identifier) xs) is
          ∙ sym (same_distinct items (told_ok script_of items t.0 t.1)) ∙ halves.1;
      fit = fit;
    }
  where
    here : (b : Bool) (v : Unit {0}) → guard b Value ≡ Ok v → b ≡ true
    here true v e = refl
    here false v e = absurd cc
