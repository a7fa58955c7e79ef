-- The lines of the meters so far were appended.
use Rattle.std.proofs.Common.{◌≡◌, ◌≤◌, ◌-◌, ◌⊎◌}
use Rattle.fleet_console.proofs.Showings.{ShowsFrom}
use Rattle.fleet_console.proofs.running.show_states.Given as goal

abbrev pub invariant-states : goal.invariant-states
invariant-states g l = record {
  low : l.first ≤ l.number;
  begun : (l.number ≡ l.first) ⊎ (1 ≤ l.first);
  shows : ShowsFrom l.fleet l.first (l.number - l.first) l.initial.text.items l.text.items;
}
