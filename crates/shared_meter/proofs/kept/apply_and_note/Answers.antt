use Rattle.std.proofs.Common.{sym, ◌∙◌, subst}
use Rattle.relay_core.specs.Machine.{at_event}
use Rattle.relay_core.specs.Stands.{StandsFor}
use Rattle.shared_meter.proofs.CallLemmas.{change_noted, read_noted}
use Rattle.shared_meter.proofs.kept.apply_and_note.Goals as goal

pub returns-then-is_read-clause-noted : goal.returns-then-is_read-clause-noted
returns-then-is_read-clause-noted c = read_noted c.apply.result c.args.recorder.now
    c.apply.new.self c.args.pending.now c.args.event (sym c.is_read.ensures ∙ c.if-is_read.true)

pub returns-clause-noted : goal.returns-clause-noted
returns-clause-noted c = λ w was is lines switches pends.
    change_noted c.args.pending.now c.note.new.self c.args.event w c.output-before.result
    c.output.result (sym c.is_read.ensures ∙ c.if-is_read.false)
    (c.output-before.ensures w (subst (λ core. StandsFor core w) (sym c.core.ensures) was))
    (c.output.ensures (at_event c.args.event w).world
    (subst (λ core. StandsFor core (at_event c.args.event w).world) (sym c.core-2.ensures) is))
    (c.note.ensures _ c.line_text-text.ensures) lines switches pends
