use Rattle.std.proofs.Common.{refl}
use Rattle.cosem_datetime.proofs.Days.{is_day}
use Rattle.cosem_datetime.proofs.Jiff.{first_day_is}
use Rattle.cosem_datetime.proofs.calendar.calendar_laws.Goals as goal

pub returns-clause-one_date : goal.returns-clause-one_date
returns-clause-one_date c = λ n d. is_day n d

pub returns-clause-first_day_of_2000 : goal.returns-clause-first_day_of_2000
returns-clause-first_day_of_2000 c = first_day_is

pub returns-clause-saturday : goal.returns-clause-saturday
returns-clause-saturday c = rw first_day_is refl
