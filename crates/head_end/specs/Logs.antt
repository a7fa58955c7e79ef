-- The log of a connection.
--     Happening             one read or one write
--     bytes_received        the bytes that were received
--     bytes_sent            the bytes that were sent
--     ReadLogs, WriteLogs   what a read and a write add to the log of a connection
use Rattle.std.specs.Prelude.{◌≡◌, ℕ, zero, suc, List, [], ◌∷◌, ◌++◌, take, Option, Some, None, Result, Ok, Err, ⊤}
use Rattle.counted_io.specs.declared.fault.StreamFault.{StreamFault}

-- a read that returned bytes; a read that returned none, at the end of the connection or after a
-- failure; a write; a write that failed after this prefix of its bytes
pub data Happening : Type 0 where
  heard : List ℕ → Happening
  heard_nothing : Happening
  sent : List ℕ → Happening
  cut_off : List ℕ → Happening

-- all bytes that were received
unfoldable pub bytes_received : List Happening → List ℕ
bytes_received [] = []
bytes_received (heard bytes ∷ later) = bytes ++ bytes_received later
bytes_received (heard_nothing ∷ later) = bytes_received later
bytes_received (sent bytes ∷ later) = bytes_received later
bytes_received (cut_off bytes ∷ later) = bytes_received later

-- all bytes that were sent
unfoldable pub bytes_sent : List Happening → List ℕ
bytes_sent [] = []
bytes_sent (heard bytes ∷ later) = bytes_sent later
bytes_sent (heard_nothing ∷ later) = bytes_sent later
bytes_sent (sent bytes ∷ later) = bytes ++ bytes_sent later
bytes_sent (cut_off bytes ∷ later) = bytes ++ bytes_sent later

-- the number of reads that returned bytes
unfoldable pub reads_made : List Happening → ℕ
reads_made [] = 0
reads_made (heard bytes ∷ later) = suc (reads_made later)
reads_made (heard_nothing ∷ later) = reads_made later
reads_made (sent bytes ∷ later) = reads_made later
reads_made (cut_off bytes ∷ later) = reads_made later

-- ---- the effect of calls on a log; an unknown log remains unknown

-- whether a read added to the log the bytes that it returned, or that it returned none
abbrev pub ReadLogs : Option (List Happening) → Result ℕ StreamFault → List ℕ
    → Option (List Happening) → Type 0
ReadLogs None result buffer new = new ≡ None
ReadLogs (Some log) (Ok zero) buffer new = new ≡ Some (log ++ heard_nothing ∷ [])
ReadLogs (Some log) (Ok (suc count)) buffer new = new ≡ Some (log ++ heard (take
    (suc count) buffer) ∷ [])
ReadLogs (Some log) (Err fault) buffer new = new ≡ Some (log ++ heard_nothing ∷ [])

-- whether `front` is a prefix of `text`
pub record IsFront (front text : List ℕ) : Type 0 where
  pub rest : List ℕ
  pub parts : text ≡ front ++ rest

-- whether a write that failed after a prefix of its text was added to the log
pub record IsCutOff (text : List ℕ) (log : List Happening) (new : Option
    (List Happening)) : Type 0 where
  pub front : List ℕ
  pub is_front : IsFront front text
  pub new_is : new ≡ Some (log ++ cut_off front ∷ [])

-- whether a write added to the log its bytes, or, if it failed, a prefix of them
abbrev pub WriteLogs : {X : Type 0} → Option (List Happening) → List ℕ → Result X StreamFault
    → Option (List Happening) → Type 0
WriteLogs None text result new = new ≡ None
WriteLogs (Some log) text (Ok x) new = new ≡ Some (log ++ sent text ∷ [])
WriteLogs (Some log) text (Err fault) new = IsCutOff text log new

-- whether the log of a new connection is empty
abbrev pub IsNewLog : Option (List Happening) → Type 0
IsNewLog None = ⊤
IsNewLog (Some log) = log ≡ []
