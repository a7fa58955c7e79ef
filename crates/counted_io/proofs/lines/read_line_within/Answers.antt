use Rattle.std.proofs.Common.{◌≡◌, ℕ, ◌+◌, ◌-◌, List, ◌∙◌, length, length-append, ap, arith}
use Rattle.counted_io.proofs.LineLemmas.{line_done, part_grown, part_more, too_long}
use Rattle.std.proofs.lemmas.Grind.{common_steps}
use Rattle.counted_io.specs.Lines.{left_in}
use Rattle.counted_io.proofs.lines.read_line_within.Goals as goal

pub returns-then-len-limit-clause-err : goal.returns-then-len-limit-clause-err
returns-then-len-limit-clause-err g c =
    too_long (left_in g.T.Read.remaining c.args.input.now)
    (left_in g.T.Read.remaining c.pieces.input)
    (left_in g.T.Read.remaining c.add_piece.new.input)
    c.args.line.now.items c.pieces.line.items c.add_piece.new.line.items c.in-Ok.is_done
    c.args.limit c.pieces.invariant.part c.in-Ok.ensures.added
    (omega (arith, c.if-len-limit.true, c.len.ensures))

pub returns-then-len-limit-clause-part : goal.returns-then-len-limit-clause-part
returns-then-len-limit-clause-part g c =
    part_grown (left_in g.T.Read.remaining c.args.input.now)
    (left_in g.T.Read.remaining c.pieces.input)
    (left_in g.T.Read.remaining c.add_piece.new.input)
    c.args.line.now.items c.pieces.line.items c.add_piece.new.line.items c.in-Ok.is_done
    c.pieces.invariant.part c.in-Ok.ensures.added

pub returns-then-is_done-clause-read : goal.returns-then-is_done-clause-read
returns-then-is_done-clause-read g c =
    line_done (left_in g.T.Read.remaining c.args.input.now)
    (left_in g.T.Read.remaining c.pieces.input)
    (left_in g.T.Read.remaining c.add_piece.new.input)
    c.args.line.now.items c.pieces.line.items c.add_piece.new.line.items c.in-Ok.is_done
    (c.len-then-is_done.result - c.len-start.result) c.pieces.invariant.part c.in-Ok.ensures.added
    c.if-is_done.true (omega arith)

pub pieces-preserved : goal.pieces-preserved
pieces-preserved g c =
    let piece = c.in-Ok.ensures.added in
    let grown : length c.add_piece.new.line.items ≡ length c.pieces.line.items
    + length piece.piece = ap (λ (bytes : List ℕ). length bytes) piece.added
    ∙ length-append c.pieces.line.items piece.piece in
    record {
      part = part_more (left_in g.T.Read.remaining c.args.input.now)
          (left_in g.T.Read.remaining c.pieces.input)
          (left_in g.T.Read.remaining c.add_piece.new.input)
          c.args.line.now.items c.pieces.line.items c.add_piece.new.line.items c.in-Ok.is_done
          c.pieces.invariant.part piece c.if-is_done.false;
      enough = omega (arith, grown, piece.more c.if-is_done.false, c.pieces.invariant.enough);
      within = λ _. omega (arith, c.if-len-limit.false, c.len.ensures);
      begun = c.pieces.invariant.begun;
    }

pub returns-in-Err-clause-part : goal.returns-in-Err-clause-part
returns-in-Err-clause-part g c = grind (arith, common_steps)

pub overflow_sub-result : goal.overflow_sub-result
overflow_sub-result g c = grind (arith, common_steps)
