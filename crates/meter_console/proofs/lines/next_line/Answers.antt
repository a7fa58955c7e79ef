use Rattle.std.proofs.Common.{rules}
use Rattle.meter_console.proofs.LineLemmas.{keeps, skips, takes, passes, ended}
use Rattle.meter_console.proofs.lines.next_line.Goals as goal
use Rattle.meter_console.proofs.lines.next_line.Goals.{then-len-lt-MAX_KEPT+in-Ok, else-len-lt-MAX_KEPT}

pub returns-in-Ok-None-clause-end : goal.returns-in-Ok-None-clause-end
returns-in-Ok-None-clause-end g c = λ _. ended c.bytes.invariant.read
    (rw c.in-Ok-None.field-0-is at c.in-Ok-None.ensures.none)

pub returns-then-is_long-clause-too_long : goal.returns-then-is_long-clause-too_long
returns-then-is_long-clause-too_long g c =
    let read = rw c.in-Ok-Some.field-0-is at c.in-Ok-Some.ensures.byte in
    λ _. passes c.bytes.invariant.read read c.if-byte-eq-LINE_END.true c.if-is_long.true

pub returns-else-is_long-clause-whole : goal.returns-else-is_long-clause-whole
returns-else-is_long-clause-whole g c =
    let read = rw c.in-Ok-Some.field-0-is at c.in-Ok-Some.ensures.byte in
    λ _. takes c.bytes.invariant.read read c.if-byte-eq-LINE_END.true c.if-is_long.false

pub bytes-preserved : goal.bytes-preserved
bytes-preserved g c =
    let read = rw c.in-Ok-Some.field-0-is at c.in-Ok-Some.ensures.byte in
    elim c.if-len-lt-MAX_KEPT.branch [
      | then-len-lt-MAX_KEPT+in-Ok w ↦ record {
        room = search rules;
        read = keeps c.bytes.invariant.read read c.if-byte-eq-LINE_END.false (search rules)
            (search rules) w.is_long-is;
      }
      | else-len-lt-MAX_KEPT w ↦ record {
        room = search rules;
        read = skips c.bytes.invariant.read read c.if-byte-eq-LINE_END.false (search rules)
            (search rules) w.is_long-is;
      }
    ]
