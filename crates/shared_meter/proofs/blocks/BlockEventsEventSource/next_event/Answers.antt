use Rattle.std.proofs.Common.{◌≡◌, None, Some, ap}
use Rattle.shared_meter.proofs.BlockLemmas.{read_offered, waiting_offered}
use Rattle.shared_meter.proofs.blocks.BlockEventsEventSource.next_event.Goals as goal

pub returns-in-Some : goal.returns-in-Some
returns-in-Some g c =
    let is : c.args.self.now.waiting ≡ Some c.in-Some.block = cc (c.in-Some.is, c.take.ensures.value)
    in
    let none : c.pass.new.self.waiting ≡ None = cc (c.pass.ensures.waiting, c.take.ensures.after) in
    waiting_offered _ _ _ _ _ _ _ _ is c.pass.ensures.event c.pass.ensures.since_read none
    (ap g.S.BlockSource.forecast c.pass.ensures.source)

pub returns-in-Some-due_read : goal.returns-in-Some-due_read
returns-in-Some-due_read g c =
    let none : c.args.self.now.waiting ≡ None = cc (c.in_default.is, c.take.ensures.value) in
    read_offered _ _ _ _ _ _ none c.in_ok-block.ensures c.in-Some-due_read.ensures.0
    c.in-Some-due_read.ensures.1
