use Rattle.std.specs.contracts.alloc.AllocError.{the_row}
use Rattle.std.proofs.lemmas.Bool.{ne_eqb}
use Rattle.session_core.proofs.Tasks.{hears_any, passes_any}
use Rattle.session_core.proofs.session.Session.receive.Goals as goal

pub returns-then-dst-ne-SERVER_PORT-clause-works : goal.returns-then-dst-ne-SERVER_PORT-clause-works
returns-then-dst-ne-SERVER_PORT-clause-works c =
    passes_any the_row.Denot c.args.self.now c.pass.new.self c.ports-src.result.1 c.args.size
    c.requires.listening c.requires.whole c.ports-src.ensures.dst
    (ne_eqb _ _ c.if-dst-ne-SERVER_PORT.true) c.pass.ensures.new_state c.pass.ensures.keeps_frames

pub returns-clause-works : goal.returns-clause-works
returns-clause-works c =
    hears_any the_row.Denot c.args.self.now c.take.new.self c.pass-2.new.self
    c.payload-payload.result.now c.receive.new.self c.ports-src.result.0 c.ports-src.result.1
    c.args.size c.in_ok-step.step c.take.result
    c.requires.listening c.requires.whole c.ports-src.ensures.src c.ports-src.ensures.dst
    c.if-dst-ne-SERVER_PORT.false c.payload-payload.ensures
    c.pass-2.ensures.new_state c.pass-2.ensures.keeps_frames c.in_ok-step.ensures.outcome
    c.in_ok-step.ensures.new_state c.take.ensures.next c.take.ensures.new_state
