-- The next block of a long text (IEC 62056-5-3, block transfer). The text is cut every `size`
-- bytes, and its last block is the rest.
use Rattle.std.specs.Prelude.{ℕ, ◌+◌, ◌*◌, nat_le, Bool, false, not, List, length, take, drop}
use Rattle.xdlms_blocks.specs.declared.blocks.Piece.{Piece}
use Rattle.xdlms_blocks.specs.declared.fault.BlockFault.{BlockFault}
use Rattle.xdlms_blocks.specs.declared.fault.BlockFault.TheVariants.{NoTransfer, WrongNumber, TooLong, Memory}
use Rattle.xdlms_blocks.specs.Transfer.{Sending}

-- the block that follows the first `number` blocks
abbrev pub block_after : ℕ → ℕ → List ℕ → List ℕ
block_after number size text = take size (drop (number * size) text)

-- whether the next block is the last: no byte comes after it
abbrev pub is_last : Sending → Bool
is_last s = nat_le (length s.text) ((s.number + 1) * s.size)

-- the next block
abbrev pub next_piece : Sending → Piece
next_piece s = record {
  last = is_last s;
  number = s.number + 1;
  raw = block_after s.number s.size s.text;
}

-- the transfer after the next block was returned
abbrev pub after_next : Sending → Sending
after_next s = record {
  text = s.text;
  number = s.number + 1;
  size = s.size;
  is_open = not (is_last s);
}

-- a transfer that has ended
abbrev pub ended_sending : Sending → Sending
ended_sending s = record { text = s.text; number = s.number; size = s.size; is_open = false }

-- the transfer after a fault: all but `Memory` end it
abbrev pub sending_by : BlockFault → Sending → Sending
sending_by NoTransfer s = ended_sending s
sending_by WrongNumber s = ended_sending s
sending_by TooLong s = ended_sending s
sending_by Memory s = s
