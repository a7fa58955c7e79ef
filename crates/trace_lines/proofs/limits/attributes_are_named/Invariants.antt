-- The items before the index are named, so all are if the others are.
use Rattle.std.proofs.Common.{drop}
use Rattle.trace_words.specs.Parts.{Each}
use Rattle.trace_lines.specs.Parts.{selection_part}
use Rattle.trace_lines.proofs.limits.attributes_are_named.Given as goal

abbrev pub invariant-items : goal.invariant-items
invariant-items l = Each selection_part.Fits (drop l.item-index l.items)
    → Each selection_part.Fits l.items
