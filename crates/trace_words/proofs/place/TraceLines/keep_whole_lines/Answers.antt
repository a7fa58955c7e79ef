use Rattle.trace_words.proofs.WholeLemmas.{whole_few}
use Rattle.trace_words.proofs.place.TraceLines.keep_whole_lines.Goals as goal

pub invariant_of-self : goal.invariant_of-self
invariant_of-self c =
    let few = whole_few c.self.inside.number c.whole_lines-len.result.0 c.whole_lines-len.result.1
    c.rest-text.result.now c.whole_lines-len.ensures (rw c.rest-text.ensures c.self.invariant) in
    rw c.new-self-inside.ensures few
