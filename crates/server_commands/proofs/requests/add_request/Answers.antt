use Rattle.server_commands.proofs.Decoded.{request_added}
use Rattle.server_commands.proofs.requests.add_request.Goals as goal

pub returns-in-Ok-push : goal.returns-in-Ok-push
returns-in-Ok-push c =
    request_added c.args.number c.args.line.now c.decode_line.new.bytes.items c.args.requests.now
    c.push.new.self
    c.in-Ok.ensures.ok (rw c.as_slice.ensures.value at c.in-Ok-push.ensures.ok)
