use Rattle.std.proofs.Common.{length}
use Rattle.client_core.specs.Steps.{Moves}
use Rattle.client_core.proofs.listening.receive.Given as goal

-- the frames removed have had their effect, and the bytes left continue as those at the start did
abbrev pub invariant-frames : goal.invariant-frames
invariant-frames l = Moves l.fn.verb l.fn.progress l.fn.deframer l.progress l.deframer

abbrev pub decreases-frames : goal.decreases-frames
decreases-frames l = length l.deframer
