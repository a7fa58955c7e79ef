-- Lists that begin with others, the calls of one port in a history, and the numbers of ports.
use Rattle.std.proofs.Common.{◌≡◌, ◌≢◌, ◌⊎◌, ℕ, ◌+◌, ◌≤◌, Bool, true, false, ◌&&◌, ◌==◌, if◌then◌else◌, List, [], ◌∷◌, ◌++◌, length, sym, refl, ap, ◌∙◌, inl, inr, ⊎_elim, arith, eq-eqb, eqb-true, length-append, le_refl}
use Rattle.std.proofs.lemmas.List.{append-nil, append_assoc, append_cancel_left}
use Rattle.turn_lock.specs.declared.known.JoinedPort.{JoinedPort}
use Rattle.turn_lock.specs.declared.turned.Entry.{Entry}
use Rattle.turn_lock.specs.History.{StartsWith, IsAmong, IsBelow, is_same_number, IsFuture, entry, calls_by}

-- a Boolean that is not true is false
pub not_true : (b : Bool) → (b ≡ true → ⊥) → b ≡ false
not_true true n = absurd (n refl)
not_true false n = refl

both_true : (a b : Bool) → a && b ≡ true → (a ≡ true) × (b ≡ true)
both_true true b e = (refl, e)
both_true false b e = cc

module _ {A : Type 0} where
  pub starts_refl : (xs : List A) → StartsWith xs xs
  starts_refl xs = ([], sym (append-nil xs))

  pub starts_trans : (xs ys zs : List A) → StartsWith xs ys → StartsWith ys zs → StartsWith xs zs
  starts_trans xs ys zs a b = (b.0 ++ a.0, a.1 ∙ (ap (λ l. l ++ a.0) b.1 ∙ append_assoc zs b.0 a.0))

  -- appending to a list keeps its beginning
  pub starts_more : (xs ys rest : List A) → StartsWith xs ys → StartsWith (xs ++ rest) ys
  starts_more xs ys rest a = (a.0 ++ rest, ap (λ l. l ++ rest) a.1 ∙ append_assoc ys a.0 rest)

  pub starts_length : (xs ys : List A) → StartsWith xs ys → length ys ≤ length xs
  starts_length xs ys a =
      let e : length xs ≡ length (ys ++ a.0) = ap length a.1 in
      omega (arith, e, length-append ys a.0)

  nil_left : (xs ys : List A) → xs ++ ys ≡ [] → xs ≡ []
  nil_left [] ys e = refl
  nil_left (x ∷ xs) ys e = cc

pub is_same_number-refl : (p : List ℕ) → is_same_number p p ≡ true
is_same_number-refl [] = refl
is_same_number-refl (x ∷ xs) = ap (λ b. b && is_same_number xs xs) (eq-eqb x x refl)
    ∙ is_same_number-refl xs

pub is_same_number-true : (p q : List ℕ) → is_same_number p q ≡ true → p ≡ q
is_same_number-true [] [] e = refl
is_same_number-true [] (y ∷ ys) e = cc
is_same_number-true (x ∷ xs) [] e = cc
is_same_number-true (x ∷ xs) (y ∷ ys) e =
    let t = both_true (x == y) (is_same_number xs ys) e in
    let a = eqb-true x y t.0 in
    let b = is_same_number-true xs ys t.1 in
    λ i. a i ∷ b i

module _ {E R : Type 0} where
  tail_calls : (b : Bool) (x : Entry E R) (u v w : List (Entry E R)) → u ≡ v ++ w
      → (if b then x ∷ u else u) ≡ (if b then x ∷ v else v) ++ w
  tail_calls true x u v w e = ap (λ l. x ∷ l) e
  tail_calls false x u v w e = e

  pub calls_by-append : (p : List ℕ) (xs ys : List (Entry E R)) → calls_by p (xs ++ ys)
      ≡ calls_by p xs ++ calls_by p ys
  calls_by-append p [] ys = refl
  calls_by-append p (x ∷ xs) ys = tail_calls (is_same_number x.by p) x (calls_by p (xs ++ ys))
      (calls_by p xs) (calls_by p ys) (calls_by-append p xs ys)

  -- appending a call of port p appends it to p's calls
  pub calls_by-own : (p : List ℕ) (xs : List (Entry E R)) (e : E) (r : R)
      → calls_by p (xs ++ entry p e r ∷ []) ≡ calls_by p xs ++ entry p e r ∷ []
  calls_by-own p xs e r = let x : Entry E R = entry p e r in
      calls_by-append p xs (x ∷ []) ∙ ap (λ (b : Bool). calls_by p xs ++ (if b then x ∷ [] else []))
      (is_same_number-refl p)

  -- appending a call of another port leaves the port's calls unchanged
  pub calls_by-other : (q p : List ℕ) (xs : List (Entry E R)) (e : E) (r : R) → q ≢ p
      → calls_by q (xs ++ entry p e r ∷ []) ≡ calls_by q xs
  calls_by-other q p xs e r n = let x : Entry E R = entry p e r in
      calls_by-append q xs (x ∷ []) ∙ (ap (λ (b : Bool). calls_by q xs
      ++ (if b then x ∷ [] else [])) (not_true (is_same_number p q)
      (λ t. n (sym (is_same_number-true p q t)))) ∙ append-nil (calls_by q xs))

  -- if a history begins with another, its calls of p begin with the other's calls of p
  pub calls_by-starts : (p : List ℕ) (xs ys : List (Entry E R)) → StartsWith xs ys
      → StartsWith (calls_by p xs) (calls_by p ys)
  calls_by-starts p xs ys a = (calls_by p a.0, ap (calls_by p) a.1 ∙ calls_by-append p ys a.0)

  pub calls_none : (p : List ℕ) (xs ys : List (Entry E R)) → StartsWith xs ys → calls_by p xs ≡ []
      → calls_by p ys ≡ []
  calls_none p xs ys a e =
      let t = calls_by-starts p xs ys a in
      nil_left (calls_by p ys) t.0 (sym t.1 ∙ e)

-- whether q begins with c
abbrev pub has_front : List ℕ → List ℕ → Bool
has_front [] q = true
has_front (x ∷ xs) [] = false
has_front (x ∷ xs) (y ∷ ys) = (x == y) && has_front xs ys

pub has_front-append : (c rest : List ℕ) → has_front c (c ++ rest) ≡ true
has_front-append [] rest = refl
has_front-append (x ∷ xs) rest = ap (λ b. b && has_front xs (xs ++ rest)) (eq-eqb x x refl)
    ∙ has_front-append xs rest

pub has_front-true : (c q : List ℕ) → has_front c q ≡ true → StartsWith q c
has_front-true [] q e = (q, refl)
has_front-true (x ∷ xs) [] e = cc
has_front-true (x ∷ xs) (y ∷ ys) e =
    let t = both_true (x == y) (has_front xs ys) e in
    let a = eqb-true x y t.0 in
    let b = has_front-true xs ys t.1 in
    (b.0, λ i. sym a i ∷ b.1 i)

-- no future number is the port's own number
pub future-not-self : (p : List ℕ) (k : ℕ) (q : List ℕ) → IsFuture p k q → q ≢ p
future-not-self p k q f e =
    let l : length (p ++ f.count ∷ f.rest) ≡ length p = ap length (sym f.number_is ∙ e) in
    absurd (omega (arith, length-append p (f.count ∷ f.rest), l))

pub future_sooner : (p : List ℕ) (k : ℕ) (q : List ℕ) → IsFuture p (k + 1) q → IsFuture p k q
future_sooner p k q f =
    let late : k + 1 ≤ f.count = f.later in
    record { count = f.count; rest = f.rest; number_is = f.number_is; later = omega arith }

-- a number that begins with p and the next split count is a future number
pub front_is_future : (p : List ℕ) (k : ℕ) (q : List ℕ) → StartsWith q (p ++ k ∷ [])
    → IsFuture p k q
front_is_future p k q a = record {
  count = k;
  rest = a.0;
  number_is = a.1
      ∙ append_assoc p (k ∷ []) a.0;
  later = le_refl k;
}

-- no number of a split after the next one begins with p and the next split count
pub future-not-front : (p : List ℕ) (k : ℕ) (q : List ℕ) → IsFuture p (k + 1) q
    → has_front (p ++ k ∷ []) q ≡ false
future-not-front p k q f = not_true _ (λ t. let a = has_front-true (p ++ k ∷ []) q t in
    let e : f.count ∷ f.rest ≡ k ∷ a.0 = append_cancel_left p (f.count ∷ f.rest) (k
    ∷ a.0) (sym f.number_is ∙ (a.1 ∙ append_assoc p (k ∷ []) a.0)) in
    let late : k + 1 ≤ f.count = f.later in
    let same : f.count ≡ k = cc in
    absurd (omega arith))

pub apart-not-front : (p : List ℕ) (k : ℕ) (q : List ℕ) → ¬ IsFuture p k q
    → has_front (p ++ k ∷ []) q ≡ false
apart-not-front p k q n =
    not_true _ (λ t. n (front_is_future p k q (has_front-true (p ++ k ∷ []) q t)))

-- a member of two joined lists is in the first, is the element between them, or is in the second
pub among-append : (q : List ℕ) (p : JoinedPort) (xs ys : List JoinedPort)
    → IsAmong q (xs ++ p ∷ ys) → IsAmong q xs ⊎ ((q ≡ p.number) ⊎ IsAmong q ys)
among-append q p [] ys m = inr m
among-append q p (x ∷ xs) ys m = ⊎_elim (λ e. inl (inl e))
    (λ r. ⊎_elim (λ a. inl (inr a)) inr (among-append q p xs ys r)) m

-- the same of a number below a port
pub below-append : (q : List ℕ) (p : JoinedPort) (xs ys : List JoinedPort)
    → IsBelow q (xs ++ p ∷ ys) → IsBelow q xs ⊎ (IsFuture p.number p.splits q ⊎ IsBelow q ys)
below-append q p [] ys m = inr m
below-append q p (x ∷ xs) ys m = ⊎_elim (λ e. inl (inl e))
    (λ r. ⊎_elim (λ a. inl (inr a)) inr (below-append q p xs ys r)) m
