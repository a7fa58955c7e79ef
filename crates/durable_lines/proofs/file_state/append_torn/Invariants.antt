-- The bytes appended so far, followed by those of the rest, are those of the whole.
use Rattle.std.proofs.Common.{◌≡◌, ◌++◌, length}
use Rattle.durable_lines.specs.FileState.{torn_text}
use Rattle.durable_lines.proofs.file_state.append_torn.Given as goal

abbrev pub invariant-bytes : goal.invariant-bytes
invariant-bytes l =
    l.left.items ++ torn_text l.fates l.bytes
    ≡ l.initial.left.items ++ torn_text l.initial.fates l.initial.bytes

abbrev pub decreases-bytes : goal.decreases-bytes
decreases-bytes l = length l.bytes
