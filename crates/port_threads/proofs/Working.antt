-- Splitting a port off for a worker, and joining it in again.
use Rattle.std.proofs.Common.{◌≡◌, List, Option, Some, None, refl, sym, ◌∙◌, ap, inl, arith}
use Rattle.turn_lock.specs.declared.turned.Entry.{Entry}
use Rattle.turn_lock.specs.Calls.{Joins, parent_after_split, child_after_split}
use Rattle.turn_lock.specs.Shown.{ShownPort, IsSame}
use Rattle.port_threads.specs.Ports.{PortContinues, AreJoined, TakesIn, child}
use Rattle.port_threads.specs.Workers.{EndsWork}
use Rattle.port_threads.proofs.Going.{among_at, as_joined, leaf_at, goes_trans, goes_split}
use Rattle.port_threads.proofs.Going.{goes_joins}

module _ {E R O : Type 0} where
  pub ended_same : {A : Type 0} (did : ShownPort E R O → ShownPort E R O → A → Type 0)
      (p q : ShownPort E R O) (end : Option A)
      → ((r s : ShownPort E R O) (e : A) → did r s e → IsSame r s)
      → EndsWork did p q end → IsSame p q
  ended_same did p q None same e =
      record {
        lock = ap (λ r. r.lock) e;
        bound = ap (λ r. r.bound) e;
        origin = ap (λ r. r.known.origin) e;
        number = ap (λ r. r.known.number) e;
        splits =
            ap (λ r. r.known.splits) e;
        joined = ap (λ r. r.known.joined) e;
      }
  ended_same did p q (Some end) same done = same p q end done

  -- the port u was joined in
  pub takes_in : (legal : O → List (Entry E R) → Type 0) (p u q : ShownPort E R O) → q.lock ≡ p.lock
      → q.bound ≡ p.bound → Joins legal p.known u.known q.known → TakesIn p u q
  takes_in legal p u q lock bound joins =
      record {
        goes = goes_joins legal p q u.known lock bound joins;
        splits = joins.sees.splits;
        joined = rw joins.joined (among_at (as_joined u.known) refl p.known.joined u.known.joined);
        leaf = λ none. rw joins.joined (leaf_at (as_joined u.known) refl none p.known.joined
            u.known.joined);
        drawn = joins.drawn;
        told = joins.other_seen;
        theirs = joins.other_calls u.known.number (inl refl);
      }

  -- a port was split off, was not used, and was joined in again
  pub none_lost : (legal : O → List (Entry E R) → Type 0) (p q r own back : ShownPort E R O)
      → q.lock ≡ p.lock → q.bound ≡ p.bound → q.known ≡ parent_after_split p.known → own.known
      ≡ child_after_split p.known → IsSame own back → r.lock ≡ q.lock → r.bound ≡ q.bound
      → Joins legal q.known back.known r.known → PortContinues p r × AreJoined p.known.splits r
  none_lost legal p q r own back lock bound divides birth same relock rebound joins =
      let one_more = ap (λ k. k.splits) divides in (
        goes_trans p q r (goes_split p q lock bound divides)
            (goes_joins legal q r back.known relock rebound joins),
        λ i low high.
            let last : i ≡ p.known.splits = omega (arith, one_more, joins.sees.splits, low, high) in
            rw (joins.sees.number ∙ ap (λ k. k.number) divides)
            (rw joins.joined (leaf_at (as_joined back.known) (same.number
            ∙ ap (λ k. k.number) birth ∙ ap (child p.known.number) (sym last))
            (same.splits ∙ ap (λ k. k.splits) birth) q.known.joined back.known.joined)),
      )
