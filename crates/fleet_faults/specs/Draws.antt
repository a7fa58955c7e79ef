-- Which meter has which fault.
--     draw_of      the draw of a meter, 0 to 99
--     fault_drawn  the fault of a draw
--     fault_of     the fault of a meter
use Rattle.std.specs.Prelude.{ℕ, ◌+◌, ◌*◌, ◌%◌, ◌^◌, if◌then◌else◌, nat_lt, Option, Some, None}
use Rattle.rand_xoshiro.specs.SplitMix64.{mix_u64}
use Rattle.fleet_faults.specs.Shares.{Shares, total}
use Rattle.fleet_faults.specs.declared.fault.InjectedFault.{InjectedFault}
use Rattle.fleet_faults.specs.declared.fault.InjectedFault.TheVariants.{Silent, Slow, Vanishes, Closes}
use Rattle.fleet_faults.specs.declared.fault.InjectedFault.TheVariants.{WrongPassword, Refuses}

-- The draw of the meter with this number, 0 to 99: the first word of SplitMix64, started at a state
-- whose high half is the seed and whose low half is the number.
unfoldable pub draw_of : ℕ → ℕ → ℕ
draw_of seed number = (mix_u64 ((seed * 2 ^ 32 + number) % 2 ^ 64)).0 % 100

-- the number of draws that are silent, slow, vanish or close
abbrev pub stream_shares : Shares → ℕ
stream_shares shares = shares.silent + shares.slow + shares.vanishes + shares.closes

-- The fault of a draw: the lowest draws are silent, the next ones slow, then come those that
-- vanish, those that close, those with another password and those that refuse.
abbrev pub fault_drawn : Shares → ℕ → Option InjectedFault
fault_drawn shares draw =
    if nat_lt draw shares.silent then Some Silent else
    if nat_lt draw (shares.silent + shares.slow) then Some Slow else
    if nat_lt draw (shares.silent + shares.slow + shares.vanishes) then Some Vanishes else
    if nat_lt draw (stream_shares shares) then Some Closes else
    if nat_lt draw (stream_shares shares + shares.wrong_password) then Some WrongPassword else
    if nat_lt draw (total shares) then Some Refuses else None

-- the fault of the meter with this number
abbrev pub fault_of : Shares → ℕ → ℕ → Option InjectedFault
fault_of shares seed number = fault_drawn shares (draw_of seed number)
