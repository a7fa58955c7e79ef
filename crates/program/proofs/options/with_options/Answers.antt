use Rattle.std.proofs.Common.{arith}
use Rattle.program.proofs.OptionLemmas.{added_option}
use Rattle.program.proofs.options.with_options.Goals as goal

pub loop-option-preserved : goal.loop-option-preserved
loop-option-preserved c = added_option _ _ _ _ _ _ _ (omega arith) c.loop-option.invariant
    (c.argument.result, c.argument.ensures, c.in_ok-command.ensures)
