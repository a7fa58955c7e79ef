-- 1 January 1970 as a number of days.
use Rattle.std.proofs.Common.{◌≡◌, arith, pos, refl}
use Rattle.cosem_datetime.proofs.Jiff.{jiff_count_is}
use Rattle.jiff_core.proofs.MarchLemmas.{day_count-early}
use Rattle.ledger_records.specs.Fields.{first_day_of_1970}

pub first_day_of_1970_is : first_day_of_1970 ≡ 719_528
unfolding first_day_of_1970
first_day_of_1970_is = omega (
  arith,
  jiff_count_is 1970 1 1 (omega arith),
  day_count-early (pos 1970) 11969 1 1 refl (omega arith) (omega arith) (omega arith),
)
