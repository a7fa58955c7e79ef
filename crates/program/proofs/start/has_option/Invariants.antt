use Rattle.std.proofs.Common.{◌≡◌, false, nat_eq, string_bytes, take}
use Rattle.std.specs.List.{list_any, starts_with}
use Rattle.program.proofs.start.has_option.Given as goal

-- no word so far begins with the name
abbrev pub invariant-loop-word : goal.invariant-loop-word
invariant-loop-word l =
    list_any (λ word. starts_with nat_eq (string_bytes word) l.name) (take l.word-index l.words)
    ≡ false
