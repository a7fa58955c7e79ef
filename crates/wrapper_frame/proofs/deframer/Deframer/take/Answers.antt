-- Whatever bytes follow, the frame taken is the first of all, and the others are those of the bytes
-- kept.
use Rattle.std.proofs.Common.{arith}
use Rattle.std.proofs.lemmas.Grind.{common_steps}
use Rattle.wrapper_frame.proofs.CutLemmas.{first_on}
use Rattle.wrapper_frame.proofs.deframer.Deframer.take.Goals as goal

pub returns-in_ok-from_slice-in-Whole-clause-keeps_frames :
    goal.returns-in_ok-from_slice-in-Whole-clause-keeps_frames
returns-in_ok-from_slice-in-Whole-clause-keeps_frames c = first_on _ _ _
    (grind (arith, common_steps))
