-- The addresses of a fleet of meters.
--     meter_of     the meter at an IPv4 address
use Rattle.std.specs.Prelude.{ℕ, ◌+◌, ◌*◌, ◌==◌, if◌then◌else◌, List, Option, Some, None, slice_index}

-- the first byte of the loopback addresses (RFC 1122, section 3.2.1.3)
abbrev pub loopback : ℕ
loopback = 127

-- The number of the meter at the address 127.a.b.c: the number whose three bytes are a, b and c, so
-- that 127.0.0.1 is meter 1. No other network has meters.
abbrev pub meter_of : List ℕ → Option ℕ
meter_of address =
    if slice_index address 0 == loopback
    then Some (slice_index address 1 * 65536 + slice_index address 2 * 256 + slice_index address 3)
    else None
