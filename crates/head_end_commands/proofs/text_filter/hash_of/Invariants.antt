use Rattle.std.proofs.Common.{◌≡◌, take}
use Rattle.head_end_commands.specs.Filters.{hash_of}
use Rattle.head_end_commands.proofs.text_filter.hash_of.Given as goal

-- the hash is that of the bytes so far
abbrev pub invariant-bytes : goal.invariant-bytes
invariant-bytes l = l.hash ≡ hash_of (take l.byte-index l.text)
