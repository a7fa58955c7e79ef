-- The limits of a block transfer.
use Rattle.std.specs.Prelude.{ℕ}

-- the maximum number of blocks of a text: a block-number is a double-long-unsigned, of four bytes
-- (IEC 62056-5-3), and the first block has number 1
abbrev pub max_blocks : ℕ
max_blocks = 4294967295

-- the minimum number of raw bytes in a block that is sent: what a PDU of 64 bytes holds after the
-- 12 bytes of a GET-Response-With-Datablock (IEC 62056-5-3, GET)
abbrev pub min_block_size : ℕ
min_block_size = 52

-- the maximum length in bytes of a joined text: that of an encoded Data
abbrev pub max_joined : ℕ
max_joined = 8192
