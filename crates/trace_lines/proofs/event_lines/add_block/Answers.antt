use Rattle.std.proofs.Common.{codes, sym, append_assoc, rules}
use Rattle.trace_words.specs.Writing.{words_after_blanks}
use Rattle.trace_lines.specs.Parts.{pairs_words}
use Rattle.trace_lines.specs.Writing.{event_row}
use Rattle.trace_lines.proofs.event_lines.add_block.Goals as goal

pub returns-in_ok-extend_from_slice-in-Some : goal.returns-in_ok-extend_from_slice-in-Some
unfolding event_row
returns-in_ok-extend_from_slice-in-Some c =
    rw (
      sym c.in-Some.ensures.values,
      sym c.values.ensures.values,
      sym (append_assoc c.args.out.now.items (codes "pairs") (words_after_blanks
          (pairs_words c.values.result.now c.in-Some.exports.now))),
    )
    (search rules)
