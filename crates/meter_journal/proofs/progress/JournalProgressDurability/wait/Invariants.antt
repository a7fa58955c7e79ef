use Rattle.turn_lock.specs.Calls.{Watches}
use Rattle.turn_lock.specs.Shown.{IsSame}
use Rattle.shared_meter.specs.Calls.{IsLegal}
use Rattle.meter_journal.proofs.progress.JournalProgressDurability.wait.Given as goal

abbrev pub invariant-turns : goal.invariant-turns
invariant-turns g l = record {
  can_next : (goal.iterator-turns g).can_next l.iterator';
  is_finite : (goal.iterator-turns g).is_finite l.iterator';
  same : IsSame l.initial.port l.port;
  watches : Watches IsLegal l.initial.port.known l.port.known;
}
