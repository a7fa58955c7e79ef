use Rattle.std.proofs.Common.{sym, ◌∙◌, arith, rules}
use Rattle.cosem_names.proofs.SeveralRead.{HasRead-none, HasRead-one}
use Rattle.script_steps.proofs.reading.read_scripts.Goals as goal

pub loop-item-preserved-in_default : goal.loop-item-preserved-in_default
loop-item-preserved-in_default c =
    HasRead-none c.loop-item.invariant c.item-item.result (omega arith) c.item-item.is
    (sym c.in_ok-script.ensures.script ∙ c.in_default.is)

pub loop-item-preserved : goal.loop-item-preserved
loop-item-preserved c =
    rw c.in_ok-push.ensures.items (HasRead-one c.loop-item.invariant c.item-item.result
    c.in-Some.script (omega arith) c.item-item.is (sym c.in_ok-script.ensures.script
    ∙ c.in-Some.is) (search rules))
