-- The predicted reads of a connection, and the effect of its calls on them.
--     Forecast                               the results of a number of reads of a connection
--     ReadTells, WriteTells, ConnectTells    the effect of a read, a write and a connect on them
use Rattle.std.specs.Prelude.{◌≡◌, ℕ, zero, suc, List, [], ◌++◌, length, take, Option, Some, None, Result, Ok, Err, ⊤}
use Rattle.counted_io.specs.declared.fault.StreamFault.{StreamFault}
use Rattle.head_end.specs.declared.connection.ConnectFault.{ConnectFault}

-- how the bytes of a connection end: at its end, at a failed read or write, or not yet
pub data Stop : Type 0 where
  ended : Stop
  failed : Stop
  goes_on : Stop

-- the predicted results of a number of reads of 1,024 bytes each, up to the end of the connection
-- or a failed read or write
pub record Forecast : Type 0 where
  pub reads : ℕ
  pub bytes : List ℕ
  pub stop : Stop

-- whether a read removed this piece from the front of the predicted bytes; the last of the reads
-- removes all that are left
pub record GivesPiece (told : Forecast) (left : ℕ) (piece : List ℕ) (new : Option Forecast)
    : Type 0 where
  pub rest : List ℕ
  pub bytes_are : told.bytes ≡ piece ++ rest
  pub new_is : new ≡ Some (record { reads = left; bytes = rest; stop = told.stop })
  pub last : left ≡ 0 → rest ≡ []

-- whether a predicted read had this result: the next predicted bytes, none at the predicted end, or
-- a fault at the predicted failure
abbrev pub ReadsTold : Forecast → ℕ → Result ℕ StreamFault → List ℕ → Option Forecast → Type 0
ReadsTold told left (Ok (suc count)) buffer new = GivesPiece told left (take (suc count) buffer) new
ReadsTold told left (Ok zero) buffer new = (told.bytes ≡ []) × (told.stop ≡ ended)
ReadsTold told left (Err fault) buffer new = (told.bytes ≡ []) × (told.stop ≡ failed)

-- whether a read had this result, if one more is predicted; nothing is claimed after the last
-- predicted one
abbrev pub ReadsBy : Forecast → ℕ → Result ℕ StreamFault → List ℕ → Option Forecast → Type 0
ReadsBy told zero result buffer new = ⊤
ReadsBy told (suc left) result buffer new = ReadsTold told left result buffer new

-- whether a read had a result that the prediction allows; only reads into a buffer of 1,024 bytes
-- are predicted
abbrev pub ReadTells : Option Forecast → Result ℕ StreamFault → List ℕ → Option Forecast → Type 0
ReadTells None result buffer new = ⊤
ReadTells (Some told) result buffer new = length buffer ≡ 1024
    → ReadsBy told told.reads result buffer new

-- whether a write left the prediction unchanged, or failed as predicted, after all predicted bytes
-- were read
abbrev pub WriteTells : {X : Type 0} → Option Forecast → Result X StreamFault
    → Option Forecast → Type 0
WriteTells None result new = ⊤
WriteTells (Some told) (Ok x) new = new ≡ Some told
WriteTells (Some told) (Err fault) new = (told.bytes ≡ []) × (told.stop ≡ failed)

-- whether a connect returned a connection with this prediction of its first 65,536 reads; a connect
-- that fails counts as a connection that fails without bytes
abbrev pub ConnectTells : {K : Type 0} → Option Forecast → (K → Option Forecast)
    → Result K ConnectFault
    → Type 0
ConnectTells None told_of result = ⊤
ConnectTells (Some told) told_of (Ok connection) = (told_of connection ≡ Some told)
    × (told.reads ≡ 65536)
ConnectTells (Some told) told_of (Err fault) = (told.bytes ≡ []) × (told.stop ≡ failed)
