use Rattle.std.proofs.Common.{◌+◌, ◌<◌, ◌^◌, arith}
use Rattle.trace_words.proofs.PlaceLemmas.{number_goes_on}
use Rattle.trace_words.proofs.place.TraceLines.next_words.Goals as goal

pub overflow_add-self : goal.overflow_add-self
overflow_add-self c =
    let room : c.self.inside.number + 1 < 2 ^ 64 = number_goes_on c.self.inside.number
    c.self.inside.lines c.in-Some.line.now c.next.new.self c.in-Some.ensures.steps.0
    c.self.invariant in
    omega (arith, room)
