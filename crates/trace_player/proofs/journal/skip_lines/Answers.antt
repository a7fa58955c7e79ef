use Rattle.std.proofs.Common.{◌∙◌, ap, drop}
use Rattle.std.proofs.lemmas.List.{drop-drop}
use Rattle.text_lines.specs.Lines.{lines_of}
use Rattle.trace_player.proofs.journal.skip_lines.Goals as goal

pub lines-preserved : goal.lines-preserved
lines-preserved c = c.skip_line-rest.ensures ∙ ap (drop 1) c.lines.invariant
    ∙ drop-drop 1 c.lines.counter (lines_of c.args.text.now)
