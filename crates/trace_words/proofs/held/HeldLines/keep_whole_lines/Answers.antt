use Rattle.std.proofs.Common.{ap, ◌∙◌}
use Rattle.trace_words.proofs.WholeLemmas.{held_whole}
use Rattle.trace_words.specs.WholeLines.{whole_lines}
use Rattle.trace_words.proofs.held.HeldLines.keep_whole_lines.Goals as goal

pub invariant_of-self : goal.invariant_of-self
invariant_of-self c =
    let held = held_whole c.as_slice.result.now c.self.inside.text.items c.truncate.new.self.items
    c.self.inside.taken c.self.inside.number c.whole_lines-len.result.0 c.whole_lines-len.result.1
    c.as_slice.ensures.value c.self.invariant.0 c.self.invariant.1 c.truncate.ensures.items
    c.whole_lines-len.ensures in
    (held.within, held.few)

pub returns-clause-whole_lines : goal.returns-clause-whole_lines
returns-clause-whole_lines c =
    let held = held_whole c.as_slice.result.now c.self.inside.text.items c.truncate.new.self.items
    c.self.inside.taken c.self.inside.number c.whole_lines-len.result.0 c.whole_lines-len.result.1
    c.as_slice.ensures.value c.self.invariant.0 c.self.invariant.1 c.truncate.ensures.items
    c.whole_lines-len.ensures in
    held.kept ∙ ap whole_lines c.self.view_is

pub returns-clause-count : goal.returns-clause-count
returns-clause-count c =
    let held = held_whole c.as_slice.result.now c.self.inside.text.items c.truncate.new.self.items
    c.self.inside.taken c.self.inside.number c.whole_lines-len.result.0 c.whole_lines-len.result.1
    c.as_slice.ensures.value c.self.invariant.0 c.self.invariant.1 c.truncate.ensures.items
    c.whole_lines-len.ensures in
    held.counted
