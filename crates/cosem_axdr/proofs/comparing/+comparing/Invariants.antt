use Rattle.std.proofs.Common.{◌≡◌, take}
use Rattle.cosem_axdr.proofs.comparing.+comparing.Given as goal

abbrev pub invariant-all_are_same-loop-i : goal.invariant-all_are_same-loop-i
invariant-all_are_same-loop-i l = take l.i l.values ≡ take l.i l.others
