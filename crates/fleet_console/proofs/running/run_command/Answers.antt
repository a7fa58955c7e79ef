use Rattle.fleet_console.proofs.Givings.{runs_gives}
use Rattle.fleet_console.specs.declared.command.Command.TheVariants.{Give}
use Rattle.fleet_console.proofs.running.run_command.Goals as goal

pub returns-in-Give-clause-gives : goal.returns-in-Give-clause-gives
returns-in-Give-clause-gives g c = runs_gives _ _ (Give _ _) _ _ _ c.give.ensures
