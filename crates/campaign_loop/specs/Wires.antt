-- The connections of a campaign's loop.
--     Wire           what happens on a connection
--     Logs, ReadLogs what calls add to the log
--     IsWithin       a read fits its buffer
--     wires_of       what the steps of a campaign do on its connections
--     IsLog          a log has that, if it is known
use Rattle.std.specs.Prelude.{◌≡◌, ◌≤◌, ◌<◌, ℕ, List, [], ◌∷◌, length, take, Option, Some, None, ⊤}
use Rattle.campaign_loop.specs.declared.wires.WireRead.{WireRead}
use Rattle.campaign_loop.specs.declared.wires.WireRead.TheVariants.{Bytes, Blocked, Ended}
use Rattle.campaign_board.specs.Lives.{Happening, began, received, lost, handed, ended, committed}
use Rattle.campaign_board.specs.Histories.{Terms}

-- What happens on a connection, which is named by its place: it was opened to an address; bytes
-- came on it; a message was sent; it was closed.
pub data Wire : Type 0 where
  opened : ℕ → List ℕ → Wire
  heard : ℕ → List ℕ → Wire
  sent : ℕ → List ℕ → Wire
  closed : ℕ → Wire

-- whether this was added to the log, if it is known
abbrev pub Logs : Option (List Wire) → Wire → Option (List Wire) → Type 0
Logs None wire new = new ≡ None
Logs (Some log) wire new = new ≡ Some (wire ∷ log)

-- whether a read added its bytes to a log
abbrev pub ReadBy : List Wire → ℕ → WireRead → List ℕ → Option (List Wire) → Type 0
ReadBy log at (Bytes count) buffer new = new ≡ Some (heard at (take count buffer) ∷ log)
ReadBy log at Blocked buffer new = new ≡ Some log
ReadBy log at Ended buffer new = new ≡ Some log

-- whether a read fits its buffer
abbrev pub IsWithin : WireRead → List ℕ → Type 0
IsWithin (Bytes count) buffer = (0 < count) × (count ≤ length buffer)
IsWithin Blocked buffer = ⊤
IsWithin Ended buffer = ⊤

-- whether a read added its bytes to the log, if it is known
abbrev pub ReadLogs : Option (List Wire) → ℕ → WireRead → List ℕ → Option (List Wire) → Type 0
ReadLogs None at result buffer new = new ≡ None
ReadLogs (Some log) at result buffer new = ReadBy log at result buffer new

-- what the steps of a campaign do on its connections, the newest first
abbrev pub wires_of : Terms → List Happening → List Wire
wires_of terms [] = []
wires_of terms (began at ∷ earlier) = opened at (terms.job at).address ∷ wires_of terms earlier
wires_of terms (received at bytes ∷ earlier) = heard at bytes ∷ wires_of terms earlier
wires_of terms (lost at bytes ∷ earlier) = heard at bytes ∷ wires_of terms earlier
wires_of terms (handed at text ∷ earlier) = sent at text ∷ wires_of terms earlier
wires_of terms (ended at outcome ∷ earlier) = closed at ∷ wires_of terms earlier
wires_of terms (committed marks outcomes ∷ earlier) = wires_of terms earlier

-- whether a log is what the steps of a campaign do, if it is known
abbrev pub IsLog : Terms → List Happening → Option (List Wire) → Type 0
IsLog terms steps None = ⊤
IsLog terms steps (Some log) = log ≡ wires_of terms steps
