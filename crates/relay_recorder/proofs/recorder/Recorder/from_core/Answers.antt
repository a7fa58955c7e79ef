use Rattle.std.proofs.Common.{ap, rules}
use Rattle.std.proofs.lemmas.Grind.{common_steps}
use Rattle.circular_buffer.specs.Buffer.{Buffer}
use Rattle.relay_events.specs.declared.event.Event.{Event}
use Rattle.relay_core.specs.Opening.{world_of_opening, opening_of}
use Rattle.relay_recorder.proofs.HistoryLemmas.{begins}
use Rattle.relay_recorder.proofs.recorder.Recorder.from_core.Goals as goal

pub invariant_of-result : goal.invariant_of-result
invariant_of-result c =
    let empty = ap (λ (b : Buffer Event). b.items)
    (rw c.in-Ok-with_capacity.is at c.with_capacity.ensures) in (
      Prim.search (rules, common_steps),
      begins c.args.core c.in-Ok.opening c.in-Ok-with_capacity.kept
          (world_of_opening (opening_of c.args.core))
          c.stands_for_its_opening.ensures (rw c.in-Ok.is at c.try_copy.ensures) empty,
    )
