use Rattle.action_schedule.specs.Reading.{entry_of}
use Rattle.action_schedule.specs.Schedule.{IsEntry}
use Rattle.cosem_names.proofs.SeveralRead.{HasRead}
use Rattle.action_schedule.proofs.reading.read_entries.Given as goal

abbrev pub invariant-loop-item : goal.invariant-loop-item
invariant-loop-item l = HasRead entry_of IsEntry l.items l.item-index l.entries.items
