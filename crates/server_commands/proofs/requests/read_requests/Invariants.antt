use Rattle.std.proofs.Common.{length}
use Rattle.text_lines.specs.Parts.{parts_at}
use Rattle.server_commands.proofs.RequestLemmas.{Left}
use Rattle.server_commands.proofs.requests.read_requests.Given as goal

-- the requests so far, and those of the lines that are left
abbrev pub invariant-lines : goal.invariant-lines
invariant-lines l = Left l.fn.text l.requests l.number l.rest

abbrev pub decreases-lines : goal.decreases-lines
decreases-lines l = length (parts_at 10 l.rest)
