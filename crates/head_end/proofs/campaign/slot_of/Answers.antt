use Rattle.std.proofs.Common.{arith}
use Rattle.head_end.proofs.Places.{slot_below}
use Rattle.head_end.proofs.campaign.slot_of.Goals as goal

pub overflow_mul-result : goal.overflow_mul-result
overflow_mul-result c = omega (
  arith,
  slot_below c.args.turns c.args.workers c.args.place
      c.requires.non_zero c.requires.place,
  c.requires.fits,
)

pub overflow_add-result : goal.overflow_add-result
overflow_add-result c = omega (
  arith,
  slot_below c.args.turns c.args.workers c.args.place
      c.requires.non_zero c.requires.place,
  c.requires.fits,
)

pub returns-clause-below : goal.returns-clause-below
returns-clause-below c = slot_below c.args.turns c.args.workers c.args.place c.requires.non_zero
    c.requires.place
