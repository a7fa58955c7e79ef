-- No byte so far is 0A.
use Rattle.std.proofs.Common.{◌≢◌, All, take}
use Rattle.counted_io.proofs.lines.line_len.Given as goal

abbrev pub invariant-bytes : goal.invariant-bytes
invariant-bytes l = All (λ byte. byte ≢ 10) (take l.i l.bytes)
