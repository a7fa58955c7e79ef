use Rattle.fleet_meters.proofs.Histories.{have_histories}
use Rattle.fleet_meters.proofs.law.separate_histories.Goals as goal

pub returns : goal.returns
returns c = have_histories
