use Rattle.std.proofs.Common.{◌≡◌, take}
use Rattle.acse_ber.proofs.judging.is_same.Given as goal

-- the bytes compared so far are equal exactly if no difference was found
abbrev pub invariant-bytes : goal.invariant-bytes
invariant-bytes l = (l.differing ≡ 0 → take l.i l.given ≡ take l.i l.password)
    × (l.given ≡ l.password → l.differing ≡ 0)
