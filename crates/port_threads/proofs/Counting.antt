-- Counts of connections.
use Rattle.std.proofs.Common.{◌≡◌, ℕ, ◌+◌, ◌<◌, ◌≤◌, ◌^◌, Option, Some, None, Bool, false, refl, ap, sym, subst, ◌∙◌, arith}
use Rattle.std.proofs.lemmas.Bool.{false≢true}
use Rattle.port_threads.specs.Listening.{RisesBy, IsCounted}
use Rattle.port_threads.specs.Sessions.{Opens, FailsSetup, IsAdded}
use Rattle.port_threads.specs.declared.accepted.Accepted.{Accepted}
use Rattle.port_threads.specs.declared.accepted.Admission.{Admission}
use Rattle.port_threads.specs.declared.accepted.Admission.TheVariants.{Served, Crowded, Starved, SetupFailed}

-- a count that has not reached its limit is at least one below it
pub count_on : (limit before after : ℕ) → limit < 2 ^ 64 → ((0 < limit) × (limit ≤ before) → ⊥)
    → (before < 18446744073709551615 → after ≡ before + 1) → 0 < limit → after ≤ limit
count_on limit before after fits open_still counted limited =
    let below : before < limit = grind (arith, limited, open_still) in
    let more = counted (omega arith) in
    omega arith

-- no connection has been accepted yet
pub rises_none : (at : Option ℕ) → RisesBy at 0 at
rises_none None = tt
rises_none (Some number) = let same : number ≡ number + 0 = omega arith in ap (λ n. Some n) same

rises_on : (before mid after : Option ℕ) (count : ℕ) → RisesBy before count mid
    → RisesBy mid 1 after
    → RisesBy before (count + 1) after
rises_on None mid after count first next = tt
rises_on (Some number) mid after count first next =
    let one_more : after ≡ Some (number + count + 1) = subst (λ m. RisesBy m 1 after) first next in
    let same : number + count + 1 ≡ number + (count + 1) = omega arith in
    one_more ∙ ap (λ n. Some n) same

-- one more was accepted, and counted
pub counted_on : (before mid after : Option ℕ) (count later : ℕ)
    → (count < 18446744073709551615 → RisesBy before count mid) → RisesBy mid 1 after
    → (count < 18446744073709551615 → later ≡ count + 1) → count ≤ later
    → later < 18446744073709551615 → RisesBy before later after
counted_on before mid after count later first next counted rises below =
    let few : count < 18446744073709551615 = omega (arith, rises, below) in
    subst (λ n. RisesBy before n after) (sym (counted few))
    (rises_on before mid after count (first few) next)

rises_still : (before mid after : Option ℕ) (count : ℕ) → RisesBy before count mid
    → RisesBy mid 0 after
    → RisesBy before count after
rises_still None mid after count first next = tt
rises_still (Some number) mid after count first next =
    let same_count : after ≡ Some (number + count + 0) =
    subst (λ m. RisesBy m 0 after) first next in
    let same : number + count + 0 ≡ number + count = omega arith in
    same_count ∙ ap (λ n. Some n) same

-- no further one was accepted
pub counted_still : (before mid after : Option ℕ) (count : ℕ)
    → (count < 18446744073709551615 → RisesBy before count mid) → RisesBy mid 0 after
    → count < 18446744073709551615 → RisesBy before count after
counted_still before mid after count first next below =
    rises_still before mid after count (first below) next

-- whether no more sessions are open than were served, and the connections that were turned away are
-- those whose stream could not be set up, as long as none starved and fewer than eight were served
abbrev pub AreFew : (held : ℕ) (before : Option ℕ) (a : Accepted) (after : Option ℕ) → Type 0
AreFew held before a after = a.has_starved ≡ false → a.served < 8
    → (held ≤ a.served) × IsCounted before a.turned_away after

-- one more connection was accepted, and counted
pub few_on : (outcome : Admission) (held later : ℕ) (before mid after : Option ℕ) (a b : Accepted)
    → AreFew held before a mid → (outcome ≡ Crowded → 8 ≤ held) → Opens outcome held later
    → FailsSetup outcome mid after → IsAdded outcome a b → AreFew later before b after
few_on Served held later before mid after a b few crowd opens fails added fed below =
    let more : b.served ≡ a.served + 1 = added.0.1 (omega (arith, added.0.0, below)) in
    let had = few (sym added.2 ∙ fed) (omega (arith, more, below)) in (
      omega (arith, more, had.0, opens),
      subst (λ n. IsCounted before n after) (sym added.1)
          (counted_still before mid after a.turned_away had.1 fails),
    )
few_on Crowded held later before mid after a b few crowd opens fails added fed below =
    let had = few (sym added.2 ∙ fed) (omega (arith, added.1, below)) in
    let none : ⊥ = omega (arith, crowd refl, had.0, added.1, below) in absurd none
few_on Starved held later before mid after a b few crowd opens fails added fed below =
    absurd (false≢true (sym fed ∙ added))
few_on SetupFailed held later before mid after a b few crowd opens fails added fed below =
    let had = few (sym added.2 ∙ fed) (omega (arith, added.1, below)) in (
      omega (arith, added.1, had.0, opens),
      counted_on before mid after a.turned_away b.turned_away had.1 fails added.0.1 added.0.0,
    )

-- no further one was accepted
pub reasons_still : (held served turned_away : ℕ) (starved : Bool) (before mid after : Option ℕ)
    → (starved ≡ false → served < 8 → (held ≤ served) × IsCounted before turned_away mid)
    → RisesBy mid 0 after → starved ≡ false → served < 8 → IsCounted before turned_away after
reasons_still held served turned_away starved before mid after few next fed below =
    counted_still before mid after turned_away (few fed below).1 next
