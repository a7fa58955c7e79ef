-- The conformance block (IEC 62056-5-3): 24 bits, one for each service. Bit 0 is the highest.
use Rattle.std.specs.Prelude.{ℕ, ◌-◌, ◌^◌}

-- the block with only this bit set
abbrev pub conformance_bit : ℕ → ℕ
conformance_bit n = 2 ^ (23 - n)

-- a GET may be answered in blocks:
-- block-transfer-with-get-or-read
abbrev pub get_in_blocks : ℕ
get_in_blocks = conformance_bit 11

-- a SET may be sent in blocks:
-- block-transfer-with-set-or-write
abbrev pub set_in_blocks : ℕ
set_in_blocks = conformance_bit 12

-- an ACTION may be sent and answered in blocks:
-- block-transfer-with-action
abbrev pub action_in_blocks : ℕ
action_in_blocks = conformance_bit 13

-- a request may name several attributes or methods:
-- multiple-references
abbrev pub multiple_references : ℕ
multiple_references = conformance_bit 14

-- attributes may be read:
-- get
abbrev pub get_service : ℕ
get_service = conformance_bit 19

-- attributes may be written:
-- set
abbrev pub set_service : ℕ
set_service = conformance_bit 20

-- methods may be invoked:
-- action
abbrev pub action_service : ℕ
action_service = conformance_bit 23
