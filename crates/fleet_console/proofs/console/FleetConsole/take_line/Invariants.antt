-- The command, if there is one, is that of a line.
use Rattle.std.proofs.Common.{IfSome}
use Rattle.fleet_console.specs.Steps.{IsRead}
use Rattle.fleet_console.proofs.console.FleetConsole.take_line.Given as goal

abbrev pub invariant-bytes : goal.invariant-bytes
invariant-bytes g l = record { read : IfSome l.self.command IsRead }
