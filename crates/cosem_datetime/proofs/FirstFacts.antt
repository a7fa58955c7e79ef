-- Searches over parts of a range, joined.
use Rattle.std.proofs.Common.{◌≡◌, ℕ, ◌+◌, ◌*◌, ◌/◌, ◌%◌, ◌<◌, ◌≤◌, ◌⊎◌, inl, inr, Bool, true, false, refl, ap, ◌∙◌, arith}
use Rattle.std.specs.Prelude.{◌&&◌, nat_le}
use Rattle.std.proofs.lemmas.Bool.Decides.{nat_tests}
use Rattle.std.proofs.Math.Nat.{div-add-mod, mul-le-mul_left}
use Rattle.std.proofs.lemmas.Bool.{cases_order}
use Rattle.cosem_datetime.specs.Fields.{TimeFields}
use Rattle.cosem_datetime.specs.Matching.{time_matches}
use Rattle.cosem_datetime.specs.First.{NonePasses, IsFirst, TellsPassing, parts_pass, day_second_holds}

and_false_left : (a b : Bool) → a ≡ false → a && b ≡ false
and_false_left a b e = rw e refl

and_false_right : (a b : Bool) → b ≡ false → a && b ≡ false
and_false_right false b e = refl
and_false_right true b e = e

and_true : (a b : Bool) → a ≡ true → b ≡ true → a && b ≡ true
and_true a b e f = rw e f

-- no number passes in two ranges of which one follows the other
pub none_then : (test : ℕ → Bool) (from middle limit : ℕ) → NonePasses test from middle
    → NonePasses test middle limit → NonePasses test from limit
none_then test from middle limit a b = record {
  none = λ n low high. elim (cases_order n middle) [
    | inl e ↦ b.none n (omega arith) high
    | inr (inl lt) ↦ a.none n low lt
    | inr (inr gt) ↦ b.none n (omega arith) high
  ];
}

-- the first number found after a range in which no number passes is the first of both ranges
pub first_then : (test : ℕ → Bool) (from middle limit n : ℕ) → from ≤ middle
    → NonePasses test from middle → IsFirst test middle limit n → IsFirst test from limit n
first_then test from middle limit n le a b =
    record {
      low = omega (arith, b.low);
      high = b.high;
      passes = b.passes;
      before = none_then test from middle n a b.before;
    }

-- the first in a part is the first in the whole
pub first_within : (test : ℕ → Bool) (from middle limit n : ℕ) → middle ≤ limit
    → IsFirst test from middle n → IsFirst test from limit n
first_within test from middle limit n le a =
    record { low = a.low; high = omega (arith, a.high); passes = a.passes; before = a.before }

-- a number as whole units and a remainder
pub record IsUnit (unit : ℕ) : Type 0 where
  pub parts : (m s : ℕ) → s < unit → ((unit * m + s) / unit ≡ m) × ((unit * m + s) % unit ≡ s)
  pub same : (from n : ℕ) → from ≤ n → n < unit * (from / unit + 1) → (n / unit ≡ from / unit)
      × (from % unit ≤ n % unit)
  pub low : (m n : ℕ) → unit * m ≤ n → m ≤ n / unit
  pub high : (m n : ℕ) → n < unit * m → n / unit < m
  pub less : (m s n : ℕ) → s < unit → n < unit * m + s → (n / unit < m)
      ⊎ ((n / unit ≡ m) × (n % unit < s))
  pub top : (m s limit : ℕ) → m < limit → s < unit → unit * m + s < unit * limit

pub minutes : IsUnit 60
minutes = record {
  parts = λ m s h. omega arith;
  same = λ from n low high. omega arith;
  low = λ m n h. omega arith;
  high = λ m n h. omega arith;
  less = λ m s n h lt. elim (cases_order (n / 60) m) [
    | inl e ↦ inr (e, omega arith)
    | inr
        (inl l) ↦ inl l
    | inr (inr g) ↦ absurd (omega arith)
  ];
  top = λ m s limit lt h. omega arith;
}

pub hours : IsUnit 3600
hours = record {
  parts = λ m s h. omega arith;
  same = λ from n low high. omega arith;
  low = λ m n h. omega arith;
  high = λ m n h. omega arith;
  less = λ m s n h lt. elim (cases_order (n / 3600) m) [
    | inl e ↦ inr (e, omega arith)
    | inr
        (inl l) ↦ inl l
    | inr (inr g) ↦ absurd (omega arith)
  ];
  top = λ m s limit lt h. omega arith;
}

-- no number passes in a unit that does not pass
pub whole_fails : (unit : ℕ) (whole left : ℕ → Bool) (from : ℕ) → IsUnit unit → whole (from / unit)
    ≡ false → NonePasses (parts_pass unit whole left) from (unit * (from / unit + 1))
unfolding parts_pass
whole_fails unit whole left from u e = record {
  none = λ n low high. and_false_left _ _ (ap whole (u.same from n low high).0 ∙ e);
}

-- no number passes in this unit if no remainder passes
pub left_fails : (unit : ℕ) (whole left : ℕ → Bool) (from : ℕ) → 0 < unit → IsUnit unit
    → NonePasses left (from % unit) unit → NonePasses (parts_pass unit whole left) from
    (unit * (from / unit + 1))
unfolding parts_pass
left_fails unit whole left from pos u h = record {
  none = λ n low high. and_false_right _ _ (h.none (n % unit) (u.same from n low high).1
      (omega arith));
}

-- the first number of this unit that passes
pub left_found : (unit : ℕ) (whole left : ℕ → Bool) (from s : ℕ) → IsUnit unit → whole (from / unit)
    ≡ true → IsFirst left (from % unit) unit s
    → IsFirst (parts_pass unit whole left) from (unit * (from / unit + 1))
    (unit * (from / unit) + s)
unfolding parts_pass
left_found unit whole left from s u e h =
    let parts = u.parts (from / unit) s h.high in
    let top = u.top (from / unit) s (from / unit + 1) (omega arith) h.high in
    record {
      low = omega (arith, div-add-mod from unit, h.low);
      high = top;
      passes = and_true _ _ (ap whole parts.0 ∙ e) (ap left parts.1 ∙ h.passes);
      before = record {
        none = λ n low lt.
            let same = u.same from n low (omega (arith, top)) in
            elim (u.less (from / unit) s n h.high lt) [
              | inl l ↦ absurd (omega (arith, same.0))
              | inr r ↦ and_false_right _ _ (h.before.none (n % unit) same.1 r.1)
            ];
      };
    }

-- no number passes in the later units if none of these passes
pub later_fails : (unit : ℕ) (whole left : ℕ → Bool) (first limit : ℕ) → IsUnit unit
    → NonePasses whole first limit → NonePasses (parts_pass unit whole left) (unit * first)
    (unit * limit)
unfolding parts_pass
later_fails unit whole left first limit u h = record {
  none = λ n low high. and_false_left _ _ (h.none (n / unit) (u.low first n low)
      (u.high limit n high));
}

-- no number passes if no remainder passes
pub all_fail : (unit : ℕ) (whole left : ℕ → Bool) (from limit : ℕ) → 0 < unit
    → NonePasses left 0 unit → NonePasses (parts_pass unit whole left) from limit
unfolding parts_pass
all_fail unit whole left from limit pos h = record {
  none = λ n low high. and_false_right _ _ (h.none (n % unit) (omega arith) (omega arith));
}

-- the first number of the later units that passes
pub later_found : (unit : ℕ) (whole left : ℕ → Bool) (first limit m s : ℕ) → IsUnit unit
    → IsFirst whole first limit m → IsFirst left 0 unit s
    → IsFirst (parts_pass unit whole left) (unit * first) (unit * limit) (unit * m + s)
unfolding parts_pass
later_found unit whole left first limit m s u h k =
    let parts = u.parts m s k.high in
    record {
      low = omega (arith, mul-le-mul_left unit h.low);
      high = u.top m s limit h.high k.high;
      passes = and_true _ _ (ap whole parts.0 ∙ h.passes) (ap left parts.1 ∙ k.passes);
      before = record {
        none = λ n low lt. elim (u.less m s n k.high lt) [
          | inl l ↦ and_false_left _ _ (h.before.none (n / unit) (u.low first n low) l)
          | inr r ↦ and_false_right _ _ (k.before.none (n % unit) (omega arith) r.1)
        ];
      };
    }

-- the second of the day by its hour, minute and second
pub day_parts : (t : TimeFields) (s : ℕ) → time_matches t s ≡ day_second_holds t s
unfolding time_matches parts_pass
day_parts t s =
    let minute : s % 3600 / 60 ≡ s / 60 % 60 = omega arith in
    let second : s % 3600 % 60 ≡ s % 60 = omega arith in
    rw (minute, second) refl

at_most : (a b : ℕ) → nat_le a b ≡ true → a ≤ b
at_most a b h = grind (arith, nat_tests)

over : (a b : ℕ) → nat_le a b ≡ false → b < a
over a b h = grind (arith, nat_tests)

-- some second up to `to` matches exactly if the first that matches is at most `to`
pub first_tells : (t : TimeFields) (from to s : ℕ) → to < 86400
    → IsFirst (day_second_holds t) from 86400 s
    → TellsPassing (time_matches t) from to (nat_le s to)
first_tells t from to s within h = record {
  found = λ e. (s, (h.low, (at_most s to e, day_parts t s ∙ h.passes)));
  none = λ e n low high. let past : to < s = over s to e in day_parts t n
      ∙ h.before.none n low (omega arith);
}

pub none_tells : (t : TimeFields) (from to : ℕ) → to < 86400
    → NonePasses (day_second_holds t) from 86400 → TellsPassing (time_matches t) from to false
none_tells t from to within h =
    record {
      found = λ e. absurd cc;
      none = λ e n low high. day_parts t n
          ∙ h.none n low (omega arith);
    }
