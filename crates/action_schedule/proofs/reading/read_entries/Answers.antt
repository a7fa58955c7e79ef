use Rattle.std.proofs.Common.{ap, sym, ◌∙◌, arith}
use Rattle.std.specs.Result.{result_ok}
use Rattle.cosem_names.proofs.SeveralRead.{HasRead-none, HasRead-one}
use Rattle.action_schedule.proofs.reading.read_entries.Goals as goal

pub loop-item-preserved-in_default : goal.loop-item-preserved-in_default
loop-item-preserved-in_default c =
    HasRead-none c.loop-item.invariant c.item-item.result (omega arith) c.item-item.is
    (ap result_ok (sym c.read_entry.ensures.exact ∙ c.in_default.is))

pub loop-item-preserved : goal.loop-item-preserved
loop-item-preserved c =
    rw c.in_ok-push.ensures.items (HasRead-one c.loop-item.invariant c.item-item.result
    c.in-Ok.entry (omega arith) c.item-item.is (ap result_ok (sym c.read_entry.ensures.exact
    ∙ c.in-Ok.is)) c.in-Ok.ensures.fit)
