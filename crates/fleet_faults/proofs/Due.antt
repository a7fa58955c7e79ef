-- The connections whose events must be reported, one after the other.
use Rattle.std.proofs.Common.{◌≡◌, ◌<◌, ◌+◌, ℕ, Bool, true, false, List, [], ◌∷◌, ◌++◌}
use Rattle.std.proofs.Common.{sym, ◌∙◌, ap, arith, length, take, drop, append_assoc}
use Rattle.std.proofs.Common.{append-nil, slice_index_or, get_or}
use Rattle.std.specs.Prelude.{map, if◌then◌else◌}
use Rattle.std.proofs.lemmas.List.{take_more, take-append-drop, length-take}
use Rattle.std.proofs.lemmas.List.{ext_get_or, get_or-map, length-map}
use Rattle.fleet_faults.specs.Delays.{TakesFirst, is_due, due_at, due_from, due_keys}
use Rattle.fleet_faults.specs.Delays.{delay_after_search}
use Rattle.fleet_faults.specs.declared.delays.Delay.{Delay}
use Rattle.fleet_faults.specs.declared.delays.Delay.TheVariants.{Prompt}

due_append : (now key : ℕ) (xs ys : List Delay) → due_from now key (xs ++ ys)
    ≡ due_from now key xs ++ due_from now (key + length xs) ys
due_append now key [] ys =
    let same : key ≡ key + 0 = omega arith in
    ap (λ (k : ℕ). due_from now k ys) same
due_append now key (x ∷ xs) ys =
    let same : key + 1 + length xs ≡ key + length (x ∷ xs) = omega arith in
    ap (λ (ks : List ℕ). due_at now key x ++ ks) (due_append now (key + 1) xs ys
    ∙ ap (λ (k : ℕ). due_from now (key + 1) xs ++ due_from now k ys) same)
    ∙ sym (append_assoc (due_at now key x) (due_from now (key + 1) xs)
    (due_from now (key + length (x ∷ xs)) ys))

-- one more delay
due_more : (now : ℕ) (delays : List Delay) (i : ℕ) (d : Delay) → i < length delays
    → due_keys now (take (i + 1) delays)
    ≡ due_keys now (take i delays) ++ due_at now i (slice_index_or delays i d)
due_more now delays i d within =
    let at : 0 + length (take i delays) ≡ i = omega (arith, length-take i delays) in
    ap (due_keys now) (take_more delays i d within)
    ∙ due_append now 0 (take i delays) (slice_index_or delays i d ∷ [])
    ∙ ap (λ (ks : List ℕ). due_keys now (take i delays) ++ ks)
    (append-nil (due_at now (0 + length (take i delays)) (slice_index_or delays i d))
    ∙ ap (λ (k : ℕ). due_at now k (slice_index_or delays i d)) at)

-- its event must be reported, and its key is appended
pub due_on : (now : ℕ) (delays : List Delay) (old ready ready' : List ℕ) (i : ℕ) (m d : Delay)
    → i < length delays → m ≡ slice_index_or delays i d → is_due now m ≡ true
    → ready ≡ old ++ due_keys now (take i delays) → ready' ≡ ready ++ i ∷ []
    → ready' ≡ old ++ due_keys now (take (i + 1) delays)
due_on now delays old ready ready' i m d within is due so_far grown =
    grown ∙ ap (λ (ks : List ℕ). ks ++ i ∷ []) so_far
    ∙ append_assoc old (due_keys now (take i delays)) (i ∷ [])
    ∙ ap (λ (ks : List ℕ). old ++ ks)
    (ap (λ (b : Bool). due_keys now (take i delays) ++ (if b then i ∷ [] else []))
    (sym due ∙ ap (is_due now) is)
    ∙ sym (due_more now delays i d within))

-- its event is held back
pub due_not : (now : ℕ) (delays : List Delay) (old ready : List ℕ) (i : ℕ) (m d : Delay)
    → i < length delays → m ≡ slice_index_or delays i d → is_due now m ≡ false
    → ready ≡ old ++ due_keys now (take i delays)
    → ready ≡ old ++ due_keys now (take (i + 1) delays)
due_not now delays old ready i m d within is early so_far =
    so_far ∙ ap (λ (ks : List ℕ). old ++ ks)
    (sym (append-nil (due_keys now (take i delays)))
    ∙ ap (λ (b : Bool). due_keys now (take i delays) ++ (if b then i ∷ [] else []))
    (sym early ∙ ap (is_due now) is)
    ∙ sym (due_more now delays i d within))

-- memory ran out
pub takes_first : (now : ℕ) (delays : List Delay) (old ready ready' : List ℕ) (i : ℕ)
    → ready ≡ old ++ due_keys now (take i delays) → ready' ≡ ready
    → TakesFirst now delays old ready'
takes_first now delays old ready ready' i so_far same = record {
  taken = due_keys now (take i delays);
  left = due_from now (0 + length (take i delays)) (drop i delays);
  split = sym (due_append now 0 (take i delays) (drop i delays))
      ∙ ap (due_keys now) (take-append-drop i delays);
  grown = same ∙ so_far;
}

-- each delay is that after the search
pub all_released : (now : ℕ) (old new : List Delay) → length new ≡ length old
    → ((k : ℕ) → k < length old
    → get_or new k Prompt ≡ delay_after_search now (get_or old k Prompt))
    → new ≡ map (delay_after_search now) old
all_released now old new count each =
    ext_get_or Prompt new (map (delay_after_search now) old)
    (count ∙ sym (length-map old (delay_after_search now)))
    (λ k lt. each k (omega (arith, count, lt))
    ∙ sym (get_or-map (delay_after_search now) old k Prompt Prompt (omega (arith, count, lt))))
