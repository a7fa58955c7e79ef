use Rattle.std.proofs.Common.{arith}
use Rattle.head_end.proofs.Places.{place_below}
use Rattle.head_end.proofs.campaign.place_of.Goals as goal

pub overflow_mul-result : goal.overflow_mul-result
overflow_mul-result c = omega (
  arith,
  place_below c.args.turns c.args.workers c.args.slot
      c.requires.non_zero c.requires.slot,
  c.requires.fits,
)

pub overflow_add-result : goal.overflow_add-result
overflow_add-result c = omega (
  arith,
  place_below c.args.turns c.args.workers c.args.slot
      c.requires.non_zero c.requires.slot,
  c.requires.fits,
)
