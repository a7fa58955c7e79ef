-- The development of a port while others work through ports that were split off from it.
use Rattle.std.specs.Prelude.{◌≡◌, ◌⊎◌, ℕ, ◌+◌, ◌<◌, ◌≤◌, List, [], ◌∷◌, ◌++◌}
use Rattle.turn_lock.specs.declared.turned.Entry.{Entry}
use Rattle.turn_lock.specs.History.{StartsWith, IsAmong, IsLeaf, calls_by}
use Rattle.turn_lock.specs.Rule.{IsOwn}
use Rattle.turn_lock.specs.Shown.{ShownPort}

-- whether q is a later state of the port p, which has made no call and may have split off other
-- ports and joined some in
pub record PortContinues {E R O : Type 0} (p q : ShownPort E R O) : Type 0 where
  pub lock : q.lock ≡ p.lock
  pub bound : q.bound ≡ p.bound
  pub origin : q.known.origin ≡ p.known.origin
  pub number : q.known.number ≡ p.known.number
  pub splits : p.known.splits ≤ q.known.splits
  pub drawn : p.known.drawn ≤ q.known.drawn
  pub seen : StartsWith q.known.seen p.known.seen
  pub joined : (n : List ℕ) → IsAmong n p.known.joined → IsAmong n q.known.joined
  pub leaves : (n : List ℕ) → IsLeaf n p.known.joined → IsLeaf n q.known.joined
  pub own : (n : List ℕ) → IsOwn p.known n → calls_by n q.known.seen ≡ calls_by n p.known.seen

-- the number of the port that was split off when i ports had been split off before
abbrev pub child : List ℕ → ℕ → List ℕ
child number i = number ++ i ∷ []

-- whether each port that was split off, from the count `from` on, was joined in, and none was split
-- off from it
abbrev pub AreJoined : {E R O : Type 0} → ℕ → ShownPort E R O → Type 0
AreJoined from p = (i : ℕ) → from ≤ i → i < p.known.splits
    → IsLeaf (child p.known.number i) p.known.joined

-- whether the port `own` was split off from p, whose later state is q
pub record SplitsOff {E R O : Type 0} (p own q : ShownPort E R O) : Type 0 where
  pub goes : PortContinues p q
  pub splits : q.known.splits ≡ p.known.splits + 1
  pub lock : own.lock ≡ p.lock
  pub bound : own.bound ≡ p.bound
  pub origin : own.known.origin ≡ p.known.origin
  pub number : own.known.number ≡ child p.known.number p.known.splits
  pub unsplit : own.known.splits ≡ 0
  pub fresh : calls_by own.known.number own.known.seen ≡ []

-- whether the port r was joined into p, whose later state is q
pub record TakesIn {E R O : Type 0} (p r q : ShownPort E R O) : Type 0 where
  pub goes : PortContinues p q
  pub splits : q.known.splits ≡ p.known.splits
  pub joined : IsAmong r.known.number q.known.joined
  pub leaf : r.known.splits ≡ 0 → IsLeaf r.known.number q.known.joined
  pub drawn : r.known.drawn ≤ q.known.drawn
  pub told : StartsWith q.known.seen r.known.seen
  pub theirs : calls_by r.known.number q.known.seen ≡ calls_by r.known.number r.known.seen

-- whether a thread returned a port either as it was lent or as the thread's work left it
abbrev pub Returns : {E R O : Type 0} → (ShownPort E R O → ShownPort E R O → Type 0)
    → ShownPort E R O → ShownPort E R O → Type 0
Returns did p q = (q ≡ p) ⊎ did p q

-- Whether a port with this number was new and did this work. The history begins with all that it
-- has seen, and its calls in the history are those that it made.
pub record AreCallsOf {E R O : Type 0} (did : ShownPort E R O → ShownPort E R O
    → Type 0) (number : List ℕ) (history : List (Entry E R)) : Type 0 where
  pub lent : ShownPort E R O
  pub back : ShownPort E R O
  pub named : lent.known.number ≡ number
  pub fresh : calls_by number lent.known.seen ≡ []
  pub returned : Returns did lent back
  pub seen : StartsWith history back.known.seen
  pub calls_are : calls_by number history ≡ calls_by number back.known.seen

-- whether each port that was split off, from the count `from` on, did this work, so that its calls
-- are known
abbrev pub AreServed : {E R O : Type 0} → (ShownPort E R O → ShownPort E R O → Type 0) → ℕ
    → ShownPort E R O → Type 0
AreServed did from p = (i : ℕ) → from ≤ i → i < p.known.splits
    → AreCallsOf did (child p.known.number i) p.known.seen
