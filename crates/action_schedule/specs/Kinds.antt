-- The numbers of a schedule's types (IEC 62056-6-2, class 22, type).
use Rattle.std.specs.Prelude.{ℕ, Option, Some, None, ◌==◌, if◌then◌else◌}
use Rattle.action_schedule.specs.declared.kind.ScheduleType.{ScheduleType}
use Rattle.action_schedule.specs.declared.kind.ScheduleType.TheVariants.{Type1, Type2, Type3, Type4, Type5}

-- the number of a schedule's type, as attribute 3 shows it
abbrev pub number_of : ScheduleType → ℕ
number_of Type1 = 1
number_of Type2 = 2
number_of Type3 = 3
number_of Type4 = 4
number_of Type5 = 5

-- the type of a schedule with this number, if the number is from 1 to 5
abbrev pub type_of_number : ℕ → Option ScheduleType
type_of_number n =
    if n == 1 then Some Type1 else if n == 2 then Some Type2 else if n == 3 then Some Type3
    else if n == 4 then Some Type4 else if n == 5 then Some Type5 else None
