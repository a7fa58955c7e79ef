use Rattle.std.proofs.Common.{◌≡◌, length, drop}
use Rattle.server_commands.specs.Apdu.{AnswersOn}
use Rattle.server_commands.specs.Requests.{pieces_of, total}
use Rattle.server_commands.proofs.answers.add_answers.Given as goal

-- the requests before this one were answered, and the bytes of the others are left
abbrev pub invariant-requests : goal.invariant-requests
invariant-requests l = record {
  sized : total (drop l.count-index l.lengths) ≡ length l.left;
  on : AnswersOn l.fn.requests (pieces_of (drop l.count-index l.lengths) l.left) l.fn.core l.core
      l.fn.lines.items l.lines.items;
}
