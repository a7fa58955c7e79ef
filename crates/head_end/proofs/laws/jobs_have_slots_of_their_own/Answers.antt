use Rattle.head_end.proofs.Places.{own_slots}
use Rattle.head_end.proofs.laws.jobs_have_slots_of_their_own.Goals as goal

pub returns : goal.returns
returns c = own_slots
