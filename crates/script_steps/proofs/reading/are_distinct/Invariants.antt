use Rattle.std.proofs.Common.{◌≡◌, drop}
use Rattle.script_steps.specs.Forms.{identifier_of}
use Rattle.script_steps.specs.Reading.{are_distinct}
use Rattle.script_steps.proofs.reading.are_distinct.Given as goal

abbrev pub invariant-loop-i : goal.invariant-loop-i
invariant-loop-i l = are_distinct identifier_of (drop l.i l.items)
    ≡ are_distinct identifier_of l.items
