-- Joining the blocks that arrive (IEC 62056-5-3, block transfer).
use Rattle.std.specs.Prelude.{ℕ, ◌+◌, Bool, false, not, List, [], ◌++◌, Option, Some, None, if◌then◌else◌}
use Rattle.xdlms_blocks.specs.declared.fault.BlockFault.{BlockFault}
use Rattle.xdlms_blocks.specs.declared.fault.BlockFault.TheVariants.{NoTransfer, WrongNumber, TooLong, Memory}
use Rattle.xdlms_blocks.specs.Transfer.{Joining}

-- the result of adding a block: the joined text, if the block is the last
abbrev pub added_text : Bool → List ℕ → Joining → Option (List ℕ)
added_text last raw j = if last then Some (j.bytes ++ raw) else None

-- the transfer after a block was added; after the last block it keeps no bytes
abbrev pub joining_after_block : Bool → List ℕ → Joining → Joining
joining_after_block last raw j =
    record {
      number = j.number + 1;
      bytes = (if last then [] else j.bytes ++ raw);
      is_open = not last;
    }

-- a transfer that has ended
abbrev pub ended_joining : Joining → Joining
ended_joining j = record { number = j.number; bytes = []; is_open = false }

-- the transfer after a fault: all but `Memory` end it
abbrev pub joining_by : BlockFault → Joining → Joining
joining_by NoTransfer j = ended_joining j
joining_by WrongNumber j = ended_joining j
joining_by TooLong j = ended_joining j
joining_by Memory j = j
