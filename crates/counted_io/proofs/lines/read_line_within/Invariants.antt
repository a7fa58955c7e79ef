-- A part of the line was read, with at least one byte for each piece.
use Rattle.std.proofs.Common.{◌≡◌, ◌<◌, ◌≤◌, length}
use Rattle.counted_io.proofs.LineLemmas.{ReadsPart}
use Rattle.counted_io.specs.Lines.{left_in}
use Rattle.counted_io.proofs.lines.read_line_within.Given as goal

abbrev pub invariant-pieces : goal.invariant-pieces
invariant-pieces g l = record {
  part : ReadsPart (left_in g.T.Read.remaining l.initial.input) l.initial.line.items
      (left_in g.T.Read.remaining l.input) l.line.items;
  enough : l.counter ≤ length l.line.items;
  within : 0 < l.counter → length l.line.items ≤ l.limit;
  begun : l.start ≡ length l.initial.line.items;
}
