-- Jobs that run in rounds on a ledger.
use Rattle.std.proofs.Common.{◌≡◌, ◌+◌, ◌≤◌, ◌⊎◌, inl, inr, ℕ, List, length}
use Rattle.std.proofs.Common.{slice_index_or, Option, refl, sym, subst, ◌∙◌, arith}
use Rattle.std.proofs.lemmas.List.Elements.{All-get_or}
use Rattle.std.proofs.Math.Nat.{eq-or-lt_of_le}
use Rattle.std.specs.List.{All}
use Rattle.turn_lock.specs.Shown.{ShownPort, IsSame}
use Rattle.client_core.specs.declared.job.Job.{Job}
use Rattle.campaign_ledger.specs.declared.entry.LedgerEntry.{LedgerEntry}
use Rattle.head_end.specs.declared.row.Row.{Row}
use Rattle.head_end.specs.Attempts.{State, unused}
use Rattle.head_end.specs.Campaigns.{EachChange}
use Rattle.head_end.specs.Connections.{Forecast}
use Rattle.head_end.specs.Rounds.{AreRounds}
use Rattle.ledger_campaigns.specs.declared.request.LedgerRequest.{LedgerRequest}
use Rattle.ledger_campaigns.specs.declared.request.LedgerAnswer.{LedgerAnswer}
use Rattle.ledger_campaigns.specs.Campaigns.{IsPlaceRun}
use Rattle.ledger_campaigns.specs.Rounds.{AreUnusedWhenDue, IsPlaceRound, IsPlaceRunUpTo}

-- a port after two sequences of calls
same_later : {E R O : Type 0} (first mid last : ShownPort E R O) → IsSame first mid
    → IsSame mid last → IsSame first last
same_later first mid last before after = record {
  lock = after.lock ∙ before.lock;
  bound = after.bound ∙ before.bound;
  origin = after.origin ∙ before.origin;
  number = after.number ∙ before.number;
  splits = after.splits ∙ before.splits;
  joined = after.joined ∙ before.joined;
}

same_port : {E R O : Type 0} (port : ShownPort E R O) → IsSame port port
same_port port = record {
  lock = refl;
  bound = refl;
  origin = refl;
  number = refl;
  splits = refl;
  joined = refl;
}

by_order : {P Q : Type 0} (R : Type 0) → P ⊎ Q → (P → R) → (Q → R) → R
by_order R (inl p) left right = left p
by_order R (inr q) left right = right q

-- a relation between two values, moved along equal values
pub moved : {X : Type 0} (old here new there : X) (R : X → X → Type 0) → here ≡ old
    → there ≡ new → R here there → R old new
moved {X} old here new there R before after is =
    subst (λ (n : X). R old n) after (subst (λ (o : X). R o there) before is)

module _ {X B O : Type 0} (tells_of : X → List ℕ → Option Forecast)
    (port_of : X → ShownPort LedgerRequest (LedgerAnswer B) O) (row_of : X → Row)
    (stage_of : X → State) (jobs : List Job) (found : List LedgerEntry)
    (passwords : List (List ℕ)) (rounds : List ℕ) where
  -- a place before and after a round
  place_up_to_next : (round place : ℕ) (start now new : X)
      → IsPlaceRunUpTo tells_of port_of row_of stage_of jobs found passwords rounds round place
      start now
      → IsPlaceRound tells_of port_of row_of stage_of jobs found passwords rounds round place
      now new
      → IsPlaceRunUpTo tells_of port_of row_of stage_of jobs found passwords rounds (round + 1)
      place start new
  place_up_to_next round place start now new up step = record {
    ran = λ earlier. by_order _
        (eq-or-lt_of_le
        (let least : slice_index_or rounds place 0 ≤ round = omega arith in least))
        (λ is. subst (λ (x : X). IsPlaceRun jobs found passwords place (tells_of x)
        (port_of new) (row_of new) (stage_of new)) (up.waits (omega arith)) (step.ran is))
        (λ less. subst (λ (x : X). IsPlaceRun jobs found passwords place (tells_of start)
        (port_of x) (row_of x) (stage_of x))
        (sym (step.others (λ due. absurd (omega arith)))) (up.ran less));
    waits = λ later. step.others (λ due. absurd (omega arith)) ∙ up.waits (omega arith);
  }

  -- all places after one round more
  pub up_to_next : (round : ℕ) (start now new : List X) → length now ≡ length start
      → EachChange (λ i o n. IsPlaceRunUpTo tells_of port_of row_of stage_of jobs found
      passwords rounds round i o n × IsSame (port_of o) (port_of n)) start now
      → EachChange (λ i o n. IsPlaceRound tells_of port_of row_of stage_of jobs found passwords
      rounds round i o n × IsSame (port_of o) (port_of n)) now new
      → EachChange (λ i o n. IsPlaceRunUpTo tells_of port_of row_of stage_of jobs found
      passwords rounds (round + 1) i o n × IsSame (port_of o) (port_of n)) start new
  up_to_next round start now new same up step = λ i x below.
      let before = up i x below in
      let after = step i x (omega arith) in (
        place_up_to_next round i _ _ _ before.0 after.0,
        same_later _ _ _ before.1 after.1,
      )

  -- before the first round
  pub up_to_first : (start : List X)
      → EachChange (λ i o n. IsPlaceRunUpTo tells_of port_of row_of stage_of jobs found
      passwords rounds 0 i o n × IsSame (port_of o) (port_of n)) start start
  up_to_first start = λ i x below. (
    record {
      ran = λ earlier. absurd (omega arith);
      waits = λ later. refl;
    },
    same_port _,
  )

  -- after the last round
  pub up_to_last : (count round : ℕ) (start new : List X) → AreRounds jobs rounds count
      → length start ≡ length jobs → count ≤ round
      → EachChange (λ i o n. IsPlaceRunUpTo tells_of port_of row_of stage_of jobs found
      passwords rounds round i o n × IsSame (port_of o) (port_of n)) start new
      → EachChange (λ i o n. IsPlaceRun jobs found passwords i (tells_of o) (port_of n)
      (row_of n) (stage_of n) × IsSame (port_of o) (port_of n)) start new
  up_to_last count round start new are long all up = λ i x below.
      let here = up i x below in
      (here.0.ran (omega (arith, are.below i (omega (arith, long, below)), all)), here.1)

  -- the attempts of a round's jobs before it
  pub unused_when_due : (round : ℕ) (start now : List X) → length now ≡ length start
      → All (λ x. stage_of x ≡ unused) start
      → EachChange (λ i o n. IsPlaceRunUpTo tells_of port_of row_of stage_of jobs found
      passwords rounds round i o n × IsSame (port_of o) (port_of n)) start now
      → AreUnusedWhenDue rounds round stage_of now
  unused_when_due round start now same all up = λ i x below due.
      let here = (up i x (omega arith)).0 in
      subst (λ (y : X). stage_of y ≡ unused) (sym (here.waits (omega arith)))
      (All-get_or (λ (y : X). stage_of y ≡ unused) start i x (omega arith) all)
