-- The text grew by what was read, line by line.
use Rattle.std.proofs.Common.{◌≡◌, ℕ, List, ◌++◌, length, drop}
use Rattle.counted_io.specs.Lines.{left_in}
use Rattle.trace_words.specs.Rows.{Row}
use Rattle.server_commands.specs.Heads.{Grows, Ahead}
use Rattle.server_commands.proofs.heading.add_lines.Given as goal

abbrev pub invariant-lines : goal.invariant-lines
invariant-lines g l = record {
  grows : Grows l.initial.text.items (left_in g.I.Read.remaining l.initial.input) l.text.items
      (left_in g.I.Read.remaining l.input);
  ahead : (whole rest : List ℕ) (front rows : List Row) → length front ≡ l.count
      → Ahead whole rest (front ++ rows) l.initial.text.items
      (left_in g.I.Read.remaining l.initial.input)
      → Ahead whole rest (drop l.counter front ++ rows) l.text.items
      (left_in g.I.Read.remaining l.input);
}
