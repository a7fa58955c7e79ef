use Rattle.std.proofs.Common.{take, arith}
use Rattle.std.proofs.lemmas.Grind.{common_steps}
use Rattle.counted_io.proofs.InputLemmas.{unread_memory}
use Rattle.counted_io.proofs.input.read_to_end_within.Goals as goal

pub returns-in_err-extend_from_slice-clause-err : goal.returns-in_err-extend_from_slice-clause-err
returns-in_err-extend_from_slice-clause-err g c =
    unread_memory c.args.limit (g.R.Reader.remaining c.args.reader.now)
    (g.R.Reader.remaining c.pieces.reader) (g.R.Reader.remaining c.read.new.self)
    (g.R.Reader.failures c.args.reader.now) (g.R.Reader.failures c.read.new.self)
    c.pieces.bytes.items (take c.in-Ok.count c.read.new.buffer) c.from_residual.result
    c.pieces.invariant.read c.in-Ok.ensures.bytes.0 c.from_residual.ensures.1

pub pieces-preserved : goal.pieces-preserved
pieces-preserved g c = grind (arith, common_steps)

pub returns-then-len-limit-clause-err : goal.returns-then-len-limit-clause-err
returns-then-len-limit-clause-err g c = grind (arith, common_steps)
