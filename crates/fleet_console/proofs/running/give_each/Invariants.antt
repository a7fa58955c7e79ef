-- The meters so far were given the event.
use Rattle.std.proofs.Common.{◌≡◌, ◌≤◌, ◌-◌, ◌⊎◌}
use Rattle.fleet_console.specs.Running.{GivesFrom}
use Rattle.fleet_console.proofs.running.give_each.Given as goal

abbrev pub invariant-meters : goal.invariant-meters
invariant-meters g l = record {
  low : l.first ≤ l.number;
  begun : (l.number ≡ l.first) ⊎ (1 ≤ l.first);
  gives : GivesFrom l.initial.fleet (l.first - 1) (l.number - l.first) l.event l.fleet;
}
