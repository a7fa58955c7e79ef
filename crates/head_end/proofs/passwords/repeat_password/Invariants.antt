use Rattle.std.proofs.Common.{◌≡◌, replicate}
use Rattle.head_end.proofs.passwords.repeat_password.Given as goal

-- as many copies as there were turns
abbrev pub invariant-copies : goal.invariant-copies
invariant-copies l = l.passwords ≡ replicate l.counter l.password
