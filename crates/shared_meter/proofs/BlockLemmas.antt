-- The events that blocks offer: a block, or a read of the thresholds before it.
use Rattle.std.proofs.Common.{◌≡◌, inl, inr, ℕ, ◌+◌, ◌%◌, not, List, [], ◌∷◌, ◌++◌, Option, Some, None, map, ap, refl, subst, arith, ◌∙◌}
use Rattle.std.proofs.lemmas.List.Elements.{filter-append}
use Rattle.shared_meter.specs.Calls.{IsSure}
use Rattle.lane_sampler.specs.Samples.{Samples}
use Rattle.relay_core.specs.Machine.{is_sure}
use Rattle.relay_events.specs.declared.event.Event.{Event}
use Rattle.relay_events.specs.declared.event.Event.TheVariants as event
use Rattle.shared_meter.specs.Blocks.{IsAhead, AreOfBlocks, AllBlocks, CanFollow}
use Rattle.shared_meter.specs.Handed.{is_read, without_reads}
use Rattle.shared_meter.specs.Sources.{Gives, Offers}
use Rattle.shared_meter.specs.Thresholds.{threshold_read}

block_sure : (block : Samples) → IsSure (event.Samples block)
unfolding is_sure
block_sure block = refl

ahead_again : (place since : ℕ) (ahead : List Event) → place % 64 ≡ since % 64 → IsAhead since ahead
    → IsAhead place ahead
ahead_again place since ahead is (inl none) = inl none
ahead_again place since ahead is (inr one) =
    let due : since % 64 ≡ 0 = one.0 in
    inr (omega (arith, due, is), one.1)

next_place : (place since : ℕ) → place % 64 ≡ since % 64 → (place + 1) % 64 ≡ (since + 1) % 64
next_place place since is = omega (arith, is)

-- which events can be those of blocks depends on the index of the first block modulo 64
same_place : (place since : ℕ) (blocks : List Samples) (events : List Event)
    → place % 64 ≡ since % 64 → AreOfBlocks since blocks events → AreOfBlocks place blocks events
same_place place since [] events is are = are
same_place place since (block ∷ blocks) events is (ahead, rest, before, e, are) = (
  ahead,
  rest,
  ahead_again place since ahead is before,
  e,
  same_place (place + 1) (since + 1) blocks rest (next_place place since is) are,
)

counted : (since since' : ℕ) → since' ≡ (since + 1) % 64 → (since + 1) % 64 ≡ since' % 64
counted since since' count = omega (arith, count)

-- the block that waited is next
waiting_first : (told : Option (List Samples)) (since since' : ℕ) (block : Samples)
    → since' ≡ (since + 1) % 64
    → Offers (CanFollow told since (Some block)) (Some (event.Samples block))
    (CanFollow told since' None)
waiting_first None since since' block count = (λ events can. tt, inl (block_sure block))
waiting_first (Some blocks) since since' block count = (
  λ events can. (
    events,
    refl,
    same_place (since + 1) since' blocks events (counted since since' count) can,
  ),
  inl (block_sure block),
)

pub waiting_offered : (told told' : Option (List Samples)) (waiting waiting' : Option Samples)
    (since since' : ℕ) (offered : Event) (block : Samples)
    → waiting ≡ Some block → offered ≡ event.Samples block → since' ≡ (since + 1) % 64
    → waiting' ≡ None → told' ≡ told
    → Offers (CanFollow told since waiting) (Some offered) (CanFollow told' since' waiting')
waiting_offered told told' waiting waiting' since since' offered block is brings count none same =
    rw (is, brings, none, same) (waiting_first told since since' block count)

-- the events of a block and of those that follow it
block_first : (place since' : ℕ) (block x : Samples) (xs : List Samples) (events : List Event)
    → since' ≡ (place + 1) % 64 → Some block ≡ Some x → AreOfBlocks since' xs events
    → AreOfBlocks place (x ∷ xs) (event.Samples block ∷ events)
block_first place since' block x xs events count given are =
    let same : block ≡ x = cc in (
      [],
      events,
      inl refl,
      ap (λ (b : Samples). event.Samples b ∷ events) same,
      same_place (place + 1) since' xs events (counted place since' count) are,
    )

-- a block is next, with no read before it
pub block_offered : (told next : Option (List Samples)) (since since' : ℕ) (block : Samples)
    → Gives told (Some block) next → since' ≡ (since + 1) % 64
    → Offers (CanFollow told since None) (Some (event.Samples block)) (CanFollow next since' None)
block_offered None next since since' block gives count = (λ events can. tt, inl (block_sure block))
block_offered (Some []) next since since' block gives count =
    let none : Some block ≡ None = gives.0 in
    cc
block_offered (Some (x ∷ xs)) next since since' block gives count = (
  λ events can.
      block_first since since' block x xs events count gives.0
      (subst (λ (n : Option (List Samples)). CanFollow n since' None events) gives.1 can),
  inl (block_sure block),
)

-- the events of a block whose read was made or left out, and of those that follow it
read_first : (since : ℕ) (block x : Samples) (xs : List Samples) (ahead events : List Event)
    → IsAhead since ahead → Some block ≡ Some x
    → CanFollow (Some xs) since (Some block) events → AreOfBlocks since (x ∷ xs) (ahead ++ events)
read_first since block x xs ahead events is given (rest, e, are) =
    let same : block ≡ x = cc in (
      ahead,
      rest,
      is,
      ap (λ (l : List Event). ahead ++ l) (e ∙ ap (λ (b : Samples). event.Samples b ∷ rest) same),
      are,
    )

-- a read is next, and its block waits
due_first : (told next : Option (List Samples)) (since : ℕ) (block : Samples)
    → Gives told (Some block) next → since % 64 ≡ 0
    → Offers (CanFollow told since None) (Some threshold_read) (CanFollow next since (Some block))
due_first None next since block gives due = (λ events can. tt, inr (λ events can. tt))
due_first (Some []) next since block gives due =
    let none : Some block ≡ None = gives.0 in
    cc
due_first (Some (x ∷ xs)) next since block gives due =
    let left : (events : List Event) → CanFollow next since (Some block) events
    → CanFollow (Some xs) since (Some block) events =
    λ events can. subst (λ (n : Option (List Samples)). CanFollow n since (Some block) events)
    gives.1 can in (
      λ events can. read_first since block x xs (threshold_read ∷ []) events (inr (due, refl))
          gives.0 (left events can),
      inr (λ events can. read_first since block x xs [] events (inl refl) gives.0
          (left events can)),
    )

pub read_offered : (told next : Option (List Samples)) (waiting : Option Samples) (since : ℕ)
    (offered : Event) (block : Samples)
    → waiting ≡ None → Gives told (Some block) next → offered ≡ threshold_read → since ≡ 0
    → Offers (CanFollow told since waiting) (Some offered) (CanFollow next since (Some block))
read_offered told next waiting since offered block none gives is due =
    let first : since % 64 ≡ 0 = omega (arith, due) in
    rw (none, is) (due_first told next since block gives first)

-- no block is left
pub no_block : (told next : Option (List Samples)) (since : ℕ) → Gives told None next
    → CanFollow told since None []
no_block None next since gives = tt
no_block (Some []) next since gives = refl
no_block (Some (x ∷ xs)) next since gives = let some : None ≡ Some x = gives.0 in cc

ahead_is_read : (place : ℕ) (ahead : List Event) → IsAhead place ahead → without_reads ahead ≡ []
ahead_is_read place ahead (inl none) = ap without_reads none
ahead_is_read place ahead (inr one) = ap without_reads one.1

-- without the reads, the events of blocks are the blocks
are_blocks : (place : ℕ) (blocks : List Samples) (events : List Event)
    → AreOfBlocks place blocks events → without_reads events ≡ map event.Samples blocks
are_blocks place [] events are = ap without_reads are
are_blocks place (block ∷ blocks) events are =
    ap without_reads are.3
    ∙ filter-append (λ (e : Event). not (is_read e)) are.0 (event.Samples block ∷ are.1)
    ∙ ap (λ (xs : List Event). xs ++ event.Samples block ∷ without_reads are.1)
    (ahead_is_read place are.0 are.2)
    ∙ ap (λ (xs : List Event). event.Samples block ∷ xs) (are_blocks (place + 1) blocks are.1 are.4)

-- all events of a source are those of all its blocks
pub all_blocks : (told : Option (List Samples)) (events : List Event) → CanFollow told 0 None events
    → AllBlocks told events
all_blocks None events can = tt
all_blocks (Some blocks) events can = (are_blocks 0 blocks events can, can)
