use Rattle.text_lines.proofs.LinesLemmas.{split_lines, split_unended}
use Rattle.text_lines.proofs.lines.split_line.Goals as goal

pub returns-clause-lines : goal.returns-clause-lines
returns-clause-lines c = split_lines c.args.text.now c.cut_at.result c.cut_at.ensures

pub returns-clause-unended : goal.returns-clause-unended
returns-clause-unended c = split_unended c.args.text.now c.cut_at.result c.cut_at.ensures
