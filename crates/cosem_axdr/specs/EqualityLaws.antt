-- `==` of values, and of items, is equality, and so an equivalence relation. It compares codes: the
-- code of a value is the tree of numbers that `stored` makes of it (Stored.antt).
use Rattle.std.proofs.Common.{◌≡◌, ◌↔◌, IsTrue, Bool, true, refl, sym, ap, ap₂, ◌∙◌, subst}
use Rattle.std.specs.Cmp.{IsEquivalence}
use Rattle.std.proofs.lemmas.Bool.Decides.{same_from_decides}
use Rattle.std.proofs.lemmas.Bool.{eqb-true, eq-eqb, and_parts, and_from}
use base.Stored.{Gv, gnil, gnum, gcons}
use Rattle.cosem_axdr.specs.Equality.{is_same_code, is_same, are_same}
use Rattle.cosem_axdr.specs.Stored.{stored, stored_all, stored_back, stored_all_back, decoded_cell}
use Rattle.cosem_axdr.specs.Tree.{Trees}
use Rattle.cosem_axdr.specs.View.{tree_of}
use Rattle.cosem_axdr.specs.declared.value.Data.{Data}
use Rattle.cosem_axdr.specs.ViewLaws.{one_tree}

-- codes that compare as the same are equal
same_code : (x y : Gv) → is_same_code x y ≡ true → x ≡ y
unfolding is_same_code
same_code gnil gnil e = refl
same_code (gnum m) (gnum n) e = ap gnum (eqb-true m n e)
same_code (gcons a b) (gcons c d) e = let both = and_parts _ _ e
    in ap₂ gcons (same_code a c both.0) (same_code b d both.1)
same_code gnil (gnum n) e = absurd cc
same_code gnil (gcons c d) e = absurd cc
same_code (gnum m) gnil e = absurd cc
same_code (gnum m) (gcons c d) e = absurd cc
same_code (gcons a b) gnil e = absurd cc
same_code (gcons a b) (gnum n) e = absurd cc

-- each code compares as the same as itself
code_itself : (x : Gv) → is_same_code x x ≡ true
unfolding is_same_code
code_itself gnil = refl
code_itself (gnum m) = eq-eqb m m refl
code_itself (gcons a b) = and_from _ _ (code_itself a) (code_itself b)

-- two booleans are equal if each is true when the other is
as_true : (a b : Bool) → (a ≡ true → b ≡ true) → (b ≡ true → a ≡ true) → a ≡ b
as_true a b to from = same_from_decides a b (λ e. e, λ e. e) (from, to)

-- a test of equality is an equivalence relation
equivalence : {K : Type 0} (same : K → K → Bool) → ((x y : K) → same x y ≡ true → x ≡ y)
    → ((x : K) → same x x ≡ true) → IsEquivalence same
equivalence same one itself = record {
  refl = itself;
  symm = λ x y. as_true (same x y) (same y x)
      (λ e. subst (λ z. same z x ≡ true) (one x y e) (itself x))
      (λ e. subst (λ z. same z y ≡ true) (one y x e) (itself y));
  congr = λ x y z e. ap (λ w. same w z) (one x y e);
}

-- values of type Data that compare as the same are equal
pub is_same-true : (d e : Data) → is_same d e ≡ true → d ≡ e
is_same-true d e same =
    one_tree d e (sym (stored_back (tree_of d)) ∙ ap (λ g. (decoded_cell g).0)
    (same_code (stored (tree_of d)) (stored (tree_of e)) same) ∙ stored_back (tree_of e))

-- items that compare as the same are equal
pub are_same-true : (ts us : Trees) → are_same ts us ≡ true → ts ≡ us
are_same-true ts us same =
    sym (stored_all_back ts) ∙ ap (λ g. (decoded_cell g).1)
    (same_code (stored_all ts) (stored_all us) same)
    ∙ stored_all_back us

-- each Data compares as the same as itself
pub is_same-itself : (d : Data) → is_same d d ≡ true
is_same-itself d = code_itself (stored (tree_of d))

-- items compare as the same as themselves
pub are_same-itself : (ts : Trees) → are_same ts ts ≡ true
are_same-itself ts = code_itself (stored_all ts)

-- a test of the equality of two Data is their `==`
pub is_same-is : (r : Bool) (d e : Data) → IsTrue r ↔ (d ≡ e) → r ≡ is_same d e
is_same-is r d e tells =
    same_from_decides r (is_same d e) tells (
      is_same-true d e,
      λ one. subst (λ x. is_same d x ≡ true) one (is_same-itself d),
    )

-- a test of the equality of items is their `==`
pub are_same-is : (r : Bool) (ts us : Trees) → IsTrue r ↔ (ts ≡ us) → r ≡ are_same ts us
are_same-is r ts us tells =
    same_from_decides r (are_same ts us) tells (
      are_same-true ts us,
      λ one. subst (λ x. are_same ts x ≡ true) one (are_same-itself ts),
    )

-- `==` of Data is an equivalence relation
pub is_same-equivalence : IsEquivalence is_same
is_same-equivalence = equivalence is_same is_same-true is_same-itself

-- `==` of items is an equivalence relation
pub are_same-equivalence : IsEquivalence are_same
are_same-equivalence = equivalence are_same are_same-true are_same-itself
