-- The sources that return the items of a list.
use Rattle.std.proofs.Common.{◌≡◌, ℕ, zero, suc, ◌-◌, ◌<◌, true, false, List, [], ◌∷◌, ◌++◌, length, drop, Option, Some, None, refl, sym, ap, arith}
use Rattle.std.specs.Prelude.{option_to_list}
use Rattle.shared_meter.specs.Sources.{Gives, Presses}

-- the item taken from the front of a list is the next one that the source returns
pub gives_front : {X : Type 0} (before after : List X) (given : Option X)
    → before ≡ option_to_list given ++ after → after ≡ drop 1 before
    → Gives (Some before) given (Some after)
gives_front [] after None items rest = (refl, ap Some (sym items))
gives_front [] after (Some x) items rest = absurd (omega (arith, ap length items))
gives_front (y ∷ ys) after None items rest =
    absurd (omega (arith, ap length items, ap length rest))
gives_front (y ∷ ys) after (Some x) items rest = (cc, cc)

-- no press is left
pub no_press : (left : ℕ) → left ≡ 0 → Presses (Some left) false (Some left)
no_press zero none = (refl, refl)
no_press (suc left) none = absurd (omega arith)

-- one press is returned, and one fewer is left
pub one_press : (left : ℕ) → 0 < left → Presses (Some left) true (Some (left - 1))
one_press zero some = absurd (omega arith)
one_press (suc left) some = let less : suc left - 1 ≡ left = omega arith in (refl, ap Some less)

pub ruleset presses = (no_press, one_press)
