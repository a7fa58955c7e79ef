-- A port's development: staying unchanged, consecutive steps, and the effect of a split and of a
-- join.
use Rattle.std.proofs.Common.{◌≡◌, ℕ, List, [], ◌∷◌, ◌++◌, refl, sym, ◌∙◌, ap, subst, inl, inr, arith, append_assoc, append-nil}
use Rattle.turn_lock.specs.declared.turned.Entry.{Entry}
use Rattle.turn_lock.specs.declared.known.Known.{Known}
use Rattle.turn_lock.specs.declared.known.JoinedPort.{JoinedPort}
use Rattle.turn_lock.specs.History.{StartsWith, IsAmong, IsBelow, IsLeaf, calls_by}
use Rattle.turn_lock.specs.Rule.{IsOwn}
use Rattle.turn_lock.specs.Calls.{Joins, parent_after_split}
use Rattle.turn_lock.specs.Shown.{ShownPort}
use Rattle.port_threads.specs.Ports.{PortContinues}

starts_itself : {A : Type 0} (xs : List A) → StartsWith xs xs
starts_itself xs = ([], sym (append-nil xs))

pub starts_trans : {A : Type 0} (xs ys zs : List A) → StartsWith ys xs → StartsWith zs ys
    → StartsWith zs xs
starts_trans xs ys zs s t = (s.0 ++ t.0, t.1 ∙ ap (λ ws. ws ++ t.0) s.1 ∙ append_assoc xs s.0 t.0)

pub among_front : (n : List ℕ) (ms ns : List JoinedPort) → IsAmong n ms → IsAmong n (ms ++ ns)
among_front n [] ns h = absurd h
among_front n (m ∷ ms) ns h = elim h [ inl e ↦ inl e | inr later ↦ inr (among_front n ms ns later) ]

pub among_at : {n : List ℕ} (m : JoinedPort) → m.number ≡ n → (ms ns : List JoinedPort)
    → IsAmong n (ms ++ m ∷ ns)
among_at m e [] ns = inl (sym e)
among_at m e (k ∷ ms) ns = inr (among_at m e ms ns)

pub leaf_front : (n : List ℕ) (ms ns : List JoinedPort) → IsLeaf n ms → IsLeaf n (ms ++ ns)
leaf_front n [] ns h = absurd h
leaf_front n (m ∷ ms) ns h = elim h [ inl e ↦ inl e | inr later ↦ inr (leaf_front n ms ns later) ]

pub leaf_at : {n : List ℕ} (m : JoinedPort) → m.number ≡ n → m.splits ≡ 0
    → (ms ns : List JoinedPort) → IsLeaf n (ms ++ m ∷ ns)
leaf_at m e none [] ns = inl (sym e, none)
leaf_at m e none (k ∷ ms) ns = inr (leaf_at m e none ms ns)

-- a port from which none was split off is one of those that were joined in
pub leaf_among : (n : List ℕ) (ms : List JoinedPort) → IsLeaf n ms → IsAmong n ms
leaf_among n [] h = absurd h
leaf_among n (m ∷ ms) h = elim h [ inl e ↦ inl e.0 | inr later ↦ inr (leaf_among n ms later) ]

-- and no port has a number that begins with its number
pub leaf_below : (n : List ℕ) (count : ℕ) (rest : List ℕ) (ms : List JoinedPort) → IsLeaf n ms
    → IsBelow (n ++ count ∷ rest) ms
leaf_below n count rest [] h = absurd h
leaf_below n count rest (m ∷ ms) h = elim h [
  | inl e ↦ inl record {
    count = count;
    rest = rest;
    number_is = ap (λ (l : List ℕ). l ++ count ∷ rest) e.0;
    later = omega (arith, e.1);
  }
  | inr later ↦ inr (leaf_below n count rest ms later)
]

module _ {E R O : Type 0} where
  -- a port, once it was joined in
  abbrev pub as_joined : Known E R O → JoinedPort
  as_joined u = record { number = u.number; splits = u.splits }

  own_later : (p q : ShownPort E R O) → PortContinues p q → (n : List ℕ) → IsOwn p.known n
      → IsOwn q.known n
  own_later p q s n h = elim h [
    | inl e ↦ inl (e ∙ sym s.number)
    | inr among ↦ inr
        (s.joined n among)
  ]

  pub goes_refl : (p : ShownPort E R O) → PortContinues p p
  goes_refl p =
      record {
        lock = refl;
        bound = refl;
        origin = refl;
        number = refl;
        splits = omega arith;
        drawn = omega arith;
        seen = starts_itself p.known.seen;
        joined = λ n among. among;
        leaves = λ n leaf. leaf;
        own = λ n own. refl;
      }

  pub goes_trans : (p q r : ShownPort E R O) → PortContinues p q → PortContinues q r
      → PortContinues p r
  goes_trans p q r s t =
      record {
        lock = t.lock ∙ s.lock;
        bound = t.bound ∙ s.bound;
        origin = t.origin ∙ s.origin;
        number = t.number ∙ s.number;
        splits = omega (arith, s.splits, t.splits);
        drawn = omega (arith, s.drawn, t.drawn);
        seen = starts_trans p.known.seen q.known.seen r.known.seen s.seen t.seen;
        joined = λ n among. t.joined n (s.joined n among);
        leaves = λ n leaf. t.leaves n (s.leaves n leaf);
        own = λ n own. t.own n (own_later p q s n own) ∙ s.own n own;
      }

  -- a port was split off
  pub goes_split : (p q : ShownPort E R O) → q.lock ≡ p.lock → q.bound ≡ p.bound → q.known
      ≡ parent_after_split p.known → PortContinues p q
  goes_split p q lock bound known =
      record {
        lock = lock;
        bound = bound;
        origin = ap (λ k. k.origin) known;
        number = ap (λ k. k.number) known;
        splits = omega (arith, ap (λ k. k.splits) known);
        drawn = omega (arith, ap (λ k. k.drawn) known);
        seen = ([], ap (λ k. k.seen) known ∙ sym (append-nil p.known.seen));
        joined = λ n among. let Q : Known E R O → Type 0 =
            λ k. IsAmong n k.joined in subst Q (sym known) among;
        leaves = λ n leaf. let Q : Known E R O → Type 0 =
            λ k. IsLeaf n k.joined in subst Q (sym known) leaf;
        own = λ n own. ap (λ k. calls_by n k.seen) known;
      }

  -- the port u was joined in
  pub goes_joins : (legal : O → List (Entry E R) → Type 0) (p q : ShownPort E R O) (u : Known E R O)
      → q.lock ≡ p.lock → q.bound ≡ p.bound → Joins legal p.known u q.known → PortContinues p q
  goes_joins legal p q u lock bound joins =
      record {
        lock = lock;
        bound = bound;
        origin = joins.sees.origin;
        number = joins.sees.number;
        splits = omega (arith, joins.sees.splits);
        drawn = joins.sees.drawn;
        seen = joins.sees.seen;
        joined = λ n among. rw joins.joined (among_front n p.known.joined (as_joined u
            ∷ u.joined) among);
        leaves = λ n leaf. rw joins.joined (leaf_front n p.known.joined (as_joined u
            ∷ u.joined) leaf);
        own = joins.sees.own_calls;
      }
