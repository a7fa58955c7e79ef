-- What a port knows after several steps.
use Rattle.std.proofs.Common.{List, sym, refl, ◌∙◌, subst, inl, inr, ⊎_elim, arith, le_refl}
use Rattle.turn_lock.specs.declared.turned.Entry.{Entry}
use Rattle.turn_lock.specs.declared.known.Known.{Known}
use Rattle.turn_lock.specs.History.{IsAmong}
use Rattle.turn_lock.specs.Calls.{IsLegal, Watches}
use Rattle.turn_lock.proofs.Lists.{starts_refl, starts_trans}

module _ {E R O : Type 0} {legal : O → List (Entry E R) → Type 0} where
  -- taking no step is watching
  pub watches_refl : (k : Known E R O) → IsLegal legal k → Watches legal k k
  watches_refl k lawful = record {
    sees = record {
      origin = refl;
      number = refl;
      splits = refl;
      drawn = le_refl k.drawn;
      served = le_refl k.served;
      seen = starts_refl k.seen;
      lawful = lawful;
      own_calls =
          λ q o. refl;
    };
    joined = refl;
  }

  -- watching twice in a row is watching
  pub watches_trans : (k l m : Known E R O) → Watches legal k l → Watches legal l m
      → Watches legal k m
  watches_trans k l m a b = let s = a.sees in let t = b.sees in record {
    sees = record {
      origin = t.origin ∙ s.origin;
      number = t.number ∙ s.number;
      splits = t.splits ∙ s.splits;
      drawn = omega (arith, s.drawn, t.drawn);
      served = omega (arith, s.served, t.served);
      seen = starts_trans m.seen l.seen k.seen t.seen s.seen;
      lawful = t.lawful;
      own_calls = λ q o. t.own_calls q (⊎_elim (λ e. inl (e ∙ sym s.number))
          (λ x. inr (subst (IsAmong q) (sym a.joined) x)) o) ∙ s.own_calls q o;
    };
    joined = b.joined ∙ a.joined;
  }
