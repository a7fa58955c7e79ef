use Rattle.fleet_console.proofs.Slicing.{slices_give_all}
use Rattle.fleet_console.proofs.law.slices_give_all.Goals as goal

pub returns : goal.returns
returns c = slices_give_all
