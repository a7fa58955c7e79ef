use Rattle.std.proofs.Common.{sym}
use Rattle.server_commands.proofs.Pieces.{pieces_pushed, total_pushed}
use Rattle.server_commands.proofs.requests.Requests.push.Goals as goal

pub returns-in-Ok-clause-ok : goal.returns-in-Ok-clause-ok
returns-in-Ok-clause-ok c =
    pieces_pushed c.self.inside.lengths.items c.push.new.self.items c.self.inside.bytes.items
    c.extend_from_slice.new.self.items c.args.request.now c.args.self.now
    (sym c.self.view_is) c.self.invariant c.in-Ok.ensures.items
    c.in_ok-extend_from_slice.ensures.items

pub invariant_of-self-in-Ok : goal.invariant_of-self-in-Ok
invariant_of-self-in-Ok c =
    total_pushed c.self.inside.lengths.items c.push.new.self.items c.self.inside.bytes.items
    c.extend_from_slice.new.self.items c.args.request.now
    c.self.invariant c.in-Ok.ensures.items c.in_ok-extend_from_slice.ensures.items
