-- The lines found so far end at `end`, and a line that has begun follows them.
use Rattle.std.proofs.Common.{◌≡◌, ℕ, ◌+◌, List, length, drop}
use Rattle.durable_lines.specs.Lines.{lines_after, lines_in, text_of}
use Rattle.durable_lines.proofs.scan.whole_len.Given as goal

abbrev pub invariant-bytes : goal.invariant-bytes
invariant-bytes l = (begun : List ℕ) × (l.end + length begun ≡ l.index)
    × (length (text_of (lines_in l.bytes)) ≡ l.end
    + length (text_of (lines_after begun (drop l.index l.bytes))))
