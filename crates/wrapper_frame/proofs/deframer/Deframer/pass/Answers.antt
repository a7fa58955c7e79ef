use Rattle.std.proofs.Common.{arith}
use Rattle.std.proofs.lemmas.Grind.{common_steps}
use Rattle.wrapper_frame.proofs.CutLemmas.{goes_on_as}
use Rattle.wrapper_frame.proofs.FrontLemmas.{whole_parts}
use Rattle.wrapper_frame.proofs.deframer.Deframer.pass.Goals as goal

pub overflow_add-size : goal.overflow_add-size
overflow_add-size c =
    let w = whole_parts c.args.self.now c.args.size c.requires in
    omega (arith, w.small)

pub returns-clause-keeps_frames : goal.returns-clause-keeps_frames
returns-clause-keeps_frames c = goes_on_as _ _ _ c.requires (grind (arith, common_steps))
