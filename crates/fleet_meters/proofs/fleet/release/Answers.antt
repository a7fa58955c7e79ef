use Rattle.std.proofs.Common.{rules}
use Rattle.fleet_meters.proofs.Seats.{frees_in}
use Rattle.fleet_meters.proofs.fleet.release.Goals as goal

pub returns-clause-frees : goal.returns-clause-frees
returns-clause-frees c = frees_in c.args.places.now.items c.args.at c.in-Some.place.now
    c.close.new.self c.args.session (search rules) c.in-Some.ensures.value c.close.ensures
