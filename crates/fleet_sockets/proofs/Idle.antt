-- The connections that are idle, one after the other.
use Rattle.std.proofs.Common.{◌≡◌, ◌<◌, ◌+◌, ℕ, Bool, true, false, List, [], ◌∷◌, ◌++◌}
use Rattle.std.proofs.Common.{sym, ◌∙◌, ap, arith, length, take, drop, append_assoc}
use Rattle.std.proofs.Common.{append-nil, slice_index_or, get_or}
use Rattle.std.specs.Prelude.{map, if◌then◌else◌}
use Rattle.std.proofs.lemmas.List.{take_more, take-append-drop, length-take}
use Rattle.std.proofs.lemmas.List.{ext_get_or, get_or-map, length-map}
use Rattle.fleet_sockets.specs.Activity.{TakesFirst, is_idle, idle_at, idle_from, idle_keys}
use Rattle.fleet_sockets.specs.Activity.{moment_after_search}

idle_append : (limit now key : ℕ) (xs ys : List ℕ) → idle_from limit now key (xs ++ ys)
    ≡ idle_from limit now key xs ++ idle_from limit now (key + length xs) ys
idle_append limit now key [] ys =
    let same : key ≡ key + 0 = omega arith in
    ap (λ (k : ℕ). idle_from limit now k ys) same
idle_append limit now key (x ∷ xs) ys =
    let same : key + 1 + length xs ≡ key + length (x ∷ xs) = omega arith in
    ap (λ (ks : List ℕ). idle_at limit now key x ++ ks) (idle_append limit now (key + 1) xs ys
    ∙ ap (λ (k : ℕ). idle_from limit now (key + 1) xs ++ idle_from limit now k ys) same)
    ∙ sym (append_assoc (idle_at limit now key x) (idle_from limit now (key + 1) xs)
    (idle_from limit now (key + length (x ∷ xs)) ys))

-- one more moment
idle_more : (limit now : ℕ) (moments : List ℕ) (i d : ℕ) → i < length moments
    → idle_keys limit now (take (i + 1) moments)
    ≡ idle_keys limit now (take i moments) ++ idle_at limit now i (slice_index_or moments i d)
idle_more limit now moments i d within =
    let at : 0 + length (take i moments) ≡ i = omega (arith, length-take i moments) in
    ap (idle_keys limit now) (take_more moments i d within)
    ∙ idle_append limit now 0 (take i moments) (slice_index_or moments i d ∷ [])
    ∙ ap (λ (ks : List ℕ). idle_keys limit now (take i moments) ++ ks)
    (append-nil (idle_at limit now (0 + length (take i moments)) (slice_index_or moments i d))
    ∙ ap (λ (k : ℕ). idle_at limit now k (slice_index_or moments i d)) at)

-- it is idle, and its key is appended
pub idle_on : (limit now : ℕ) (moments old idle idle' : List ℕ) (i m d : ℕ) → i < length moments
    → m ≡ slice_index_or moments i d → is_idle limit now m ≡ true
    → idle ≡ old ++ idle_keys limit now (take i moments) → idle' ≡ idle ++ i ∷ []
    → idle' ≡ old ++ idle_keys limit now (take (i + 1) moments)
idle_on limit now moments old idle idle' i m d within is lapsed so_far grown =
    grown ∙ ap (λ (ks : List ℕ). ks ++ i ∷ []) so_far
    ∙ append_assoc old (idle_keys limit now (take i moments)) (i ∷ [])
    ∙ ap (λ (ks : List ℕ). old ++ ks)
    (ap (λ (b : Bool). idle_keys limit now (take i moments) ++ (if b then i ∷ [] else []))
    (sym lapsed ∙ ap (is_idle limit now) is)
    ∙ sym (idle_more limit now moments i d within))

-- it is not idle
pub idle_not : (limit now : ℕ) (moments old idle : List ℕ) (i m d : ℕ) → i < length moments
    → m ≡ slice_index_or moments i d → is_idle limit now m ≡ false
    → idle ≡ old ++ idle_keys limit now (take i moments)
    → idle ≡ old ++ idle_keys limit now (take (i + 1) moments)
idle_not limit now moments old idle i m d within is active so_far =
    so_far ∙ ap (λ (ks : List ℕ). old ++ ks)
    (sym (append-nil (idle_keys limit now (take i moments)))
    ∙ ap (λ (b : Bool). idle_keys limit now (take i moments) ++ (if b then i ∷ [] else []))
    (sym active ∙ ap (is_idle limit now) is)
    ∙ sym (idle_more limit now moments i d within))

-- memory ran out
pub takes_first : (limit now : ℕ) (moments old idle idle' : List ℕ) (i : ℕ)
    → idle ≡ old ++ idle_keys limit now (take i moments) → idle' ≡ idle
    → TakesFirst limit now moments old idle'
takes_first limit now moments old idle idle' i so_far same = record {
  taken = idle_keys limit now (take i moments);
  left = idle_from limit now (0 + length (take i moments)) (drop i moments);
  split = sym (idle_append limit now 0 (take i moments) (drop i moments))
      ∙ ap (idle_keys limit now) (take-append-drop i moments);
  grown = same ∙ so_far;
}

-- each moment is that after the search
pub all_renewed : (limit now : ℕ) (old new : List ℕ) → length new ≡ length old
    → ((k : ℕ) → k < length old → get_or new k 0 ≡ moment_after_search limit now (get_or old k 0))
    → new ≡ map (moment_after_search limit now) old
all_renewed limit now old new count each =
    ext_get_or 0 new (map (moment_after_search limit now) old)
    (count ∙ sym (length-map old (moment_after_search limit now)))
    (λ k lt. each k (omega (arith, count, lt))
    ∙ sym (get_or-map (moment_after_search limit now) old k 0 0 (omega (arith, count, lt))))
