-- Two times that are written in the same way.
use Rattle.std.proofs.Common.{◌≡◌, ◌↔◌, ℕ, Bool, true, false, ◌&&◌, Option, Some, None, IsTrue, refl, sym, ap, ap₂, arith}
use Rattle.std.proofs.lemmas.Bool.Decides.{nat_tests}
use Rattle.cosem_datetime.specs.Fields.{TimeFields}
use Rattle.action_schedule.specs.Fitting.{is_same_field, is_same_time}

-- fields that pass the test are equal
field_same : (a b : Option ℕ) → is_same_field a b ≡ true → a ≡ b
field_same None None e = refl
field_same None (Some n) e = absurd cc
field_same (Some m) None e = absurd cc
field_same (Some m) (Some n) e =
    let same : m ≡ n = grind (arith, nat_tests) in
    ap (λ k. Some k) same

-- equal fields pass the test
same_field : (a b : Option ℕ) → a ≡ b → is_same_field a b ≡ true
same_field None None e = refl
same_field None (Some n) e = absurd cc
same_field (Some m) None e = absurd cc
same_field (Some m) (Some n) e =
    let same : m ≡ n = cc in
    grind (arith, nat_tests)

both : (a b : Bool) → a && b ≡ true → (a ≡ true) × (b ≡ true)
both true b e = (refl, e)
both false b e = absurd cc

-- two tests of which each implies the other are equal
one_test : (r s : Bool) → (r ≡ true → s ≡ true) → (s ≡ true → r ≡ true) → r ≡ s
one_test true s there back = sym (there refl)
one_test false true there back = back refl
one_test false false there back = refl

pub same_time_is : (r : Bool) (t u : TimeFields) → IsTrue r
    ↔ (((t.hour ≡ u.hour) × (t.minute ≡ u.minute)) × (t.second ≡ u.second)) → r ≡ is_same_time t u
same_time_is r t u tells = one_test r (is_same_time t u) there back
  where
    there : r ≡ true → is_same_time t u ≡ true
    there e =
        let same = tells.0 e in
        ap₂ (λ a b. a && b) (same_field t.hour u.hour same.0.0)
        (ap₂ (λ a b. a && b) (same_field t.minute u.minute same.0.1)
        (same_field t.second u.second same.1))

    back : is_same_time t u ≡ true → r ≡ true
    back e =
        let first = both (is_same_field t.hour u.hour) (is_same_field t.minute u.minute
        && is_same_field t.second u.second) e in
        let rest = both (is_same_field t.minute u.minute) (is_same_field t.second u.second) first.1
        in
        tells.1 (
          (field_same t.hour u.hour first.0, field_same t.minute u.minute rest.0),
          field_same t.second u.second rest.1,
        )
