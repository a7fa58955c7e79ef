use Rattle.std.proofs.Common.{◌≡◌, map, take}
use Rattle.action_schedule.specs.Writing.{entry_data}
use Rattle.action_schedule.proofs.writing.write_entries.Given as goal

abbrev pub invariant-loop-entry : goal.invariant-loop-entry
invariant-loop-entry l = l.items.items ≡ map entry_data (take l.entry-index l.entries)
