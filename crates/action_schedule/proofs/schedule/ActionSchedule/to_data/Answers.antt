use Rattle.std.proofs.Common.{ℕ}
use Rattle.wire_bytes.proofs.OutcomeLemmas.{done}
use Rattle.cosem_axdr.specs.declared.value.Data.TheVariants.{Enum}
use Rattle.action_schedule.specs.declared.attribute.ScheduleAttribute.TheVariants.{ExecutedScript, Kind, ExecutionTime}
use Rattle.action_schedule.proofs.Again.{selector_written, kind_written, entries_written, reads_back}
use Rattle.action_schedule.proofs.schedule.ActionSchedule.to_data.Goals as goal

pub returns-in-ExecutedScript-clause-read_back : goal.returns-in-ExecutedScript-clause-read_back
returns-in-ExecutedScript-clause-read_back c =
    reads_back c.script_to_data.result ExecutedScript c.args.attribute _ c.args.self.now
    c.in-ExecutedScript.is c.self.view_is
    (selector_written c.script_to_data.result c.self.inside.selector c.script_to_data.ensures)

pub returns-in-Kind-clause-read_back : goal.returns-in-Kind-clause-read_back
returns-in-Kind-clause-read_back c =
    reads_back (done ℕ (Enum c.from.result)) Kind c.args.attribute _ c.args.self.now c.in-Kind.is
    c.self.view_is (kind_written c.from.result c.self.inside.kind c.from.ensures)

pub returns-in-ExecutionTime-clause-read_back : goal.returns-in-ExecutionTime-clause-read_back
returns-in-ExecutionTime-clause-read_back c =
    reads_back c.write_entries.result ExecutionTime c.args.attribute _ c.args.self.now
    c.in-ExecutionTime.is c.self.view_is
    (entries_written c.write_entries.result c.as_slice.result.now c.self.inside.entries
    c.self.invariant c.as_slice.ensures c.write_entries.ensures)
