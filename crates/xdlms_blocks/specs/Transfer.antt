-- The state of a block transfer (IEC 62056-5-3), as contracts see it.
use Rattle.std.specs.Prelude.{◌≡◌, ℕ, ◌*◌, ◌<◌, ◌≤◌, Bool, true, List, length}
use Rattle.xdlms_blocks.specs.Limits.{max_blocks}

-- a text that is sent: the number of the block last returned (0 before the first), the number of
-- raw bytes of a block, and whether the transfer is open
pub record Sending : Type 0 where
  pub text : List ℕ
  pub number : ℕ
  pub size : ℕ
  pub is_open : Bool

-- a text that arrives: the number of the block last added (0 before the first), the bytes so far,
-- and whether the transfer is open
pub record Joining : Type 0 where
  pub number : ℕ
  pub bytes : List ℕ
  pub is_open : Bool

-- whether there are numbers for all blocks of the text, and while the transfer is open it has
-- another block
pub record CanGoOn (sending : Sending) : Type 0 where
  pub numbered : length sending.text ≤ max_blocks * sending.size
  pub more : sending.is_open ≡ true → sending.number * sending.size < length sending.text
