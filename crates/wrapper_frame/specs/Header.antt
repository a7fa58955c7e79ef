-- The header at the front of bytes (IEC 62056-4-7): version, source port, destination port and
-- length of the payload, each in two bytes with the highest first.
--     wrapper_version, max_payload  the supported version, and the maximum length of a payload
--     version_of .. length_of       its four fields
--     IsThere                       the announced header and payload are complete
--     head_of                       what bytes begin with: part of a frame, a fault, or a frame
--                                   with the length of its payload
use Rattle.std.specs.Prelude.{ℕ, ◌+◌, ◌*◌, ◌≤◌, ◌==◌, nat_lt, List, length, drop, if◌then◌else◌}
use Rattle.byteorder.specs.Endian.{big_number}
use Rattle.wrapper_frame.specs.declared.header.Head.{Head}
use Rattle.wrapper_frame.specs.declared.header.Head.TheVariants.{Part, BadVersion, TooLong, Whole}

-- the version of the wrapper
abbrev pub wrapper_version : ℕ
wrapper_version = 0x0001

-- the number of bytes of the four fields
abbrev pub header_size : ℕ
header_size = 4 * 2

-- the maximum number of bytes of a payload; the field of its length could hold more
abbrev pub max_payload : ℕ
max_payload = 1024

-- the field of the header after this number of other fields
abbrev pub header_field : ℕ → List ℕ → ℕ
header_field others bytes = big_number 2 (drop (others * 2) bytes)

-- the version of the wrapper, in the first field of the header
abbrev pub version_of : List ℕ → ℕ
version_of bytes = header_field 0 bytes

-- the source port, in the second field of the header
abbrev pub src_of : List ℕ → ℕ
src_of bytes = header_field 1 bytes

-- the destination port, in the third field of the header
abbrev pub dst_of : List ℕ → ℕ
dst_of bytes = header_field 2 bytes

-- the length of the payload in bytes, in the fourth field of the header
abbrev pub length_of : List ℕ → ℕ
length_of bytes = header_field 3 bytes

-- What bytes begin with. A header is checked once it is complete, its version before its length.
unfoldable pub head_of : List ℕ → Head
head_of bytes =
    if nat_lt (length bytes) header_size then Part
    else if version_of bytes == wrapper_version then
    (if nat_lt max_payload (length_of bytes) then TooLong
    else if nat_lt (length bytes) (header_size + length_of bytes) then Part
    else Whole (length_of bytes))
    else BadVersion

-- whether the header and the payload of a whole frame are complete, and the payload is not too long
abbrev pub IsThere : List ℕ → Head → Type 0
IsThere bytes (Whole n) = (n ≤ max_payload) × (header_size + n ≤ length bytes)
IsThere bytes Part = Unit {0}
IsThere bytes BadVersion = Unit {0}
IsThere bytes TooLong = Unit {0}
