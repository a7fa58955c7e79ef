-- Histories of calls, and the numbers of the ports that made them.
use Rattle.std.specs.Prelude.{◌≡◌, ◌⊎◌, ℕ, ◌≤◌, Bool, true, false, ◌&&◌, ◌==◌, if◌then◌else◌, List, [], ◌∷◌, ◌++◌}
use Rattle.turn_lock.specs.declared.known.JoinedPort.{JoinedPort}
use Rattle.turn_lock.specs.declared.turned.Entry.{Entry}

-- whether the list xs begins with the list ys
abbrev pub StartsWith : {A : Type 0} → List A → List A → Type 0
StartsWith {A} xs ys = (rest : List A) × (xs ≡ ys ++ rest)

-- whether q is the number of one of these ports
abbrev pub IsAmong : List ℕ → List JoinedPort → Type 0
IsAmong q [] = ⊥
IsAmong q (port ∷ ports) = (q ≡ port.number) ⊎ IsAmong q ports

-- whether two port numbers are equal
abbrev pub is_same_number : List ℕ → List ℕ → Bool
is_same_number [] [] = true
is_same_number [] (y ∷ ys) = false
is_same_number (x ∷ xs) [] = false
is_same_number (x ∷ xs) (y ∷ ys) = (x == y) && is_same_number xs ys

-- whether q is the number of a port that a later split of a port, or of its descendants, may make:
-- the port's number, then a count of splits that is no less than the port's, then anything
pub record IsFuture (number : List ℕ) (splits : ℕ) (q : List ℕ) : Type 0 where
  pub count : ℕ
  pub rest : List ℕ
  pub number_is : q ≡ number ++ count ∷ rest
  pub later : splits ≤ count

-- whether q is the number of a port that a later split of one of these ports, or of its
-- descendants, may make
abbrev pub IsBelow : List ℕ → List JoinedPort → Type 0
IsBelow q [] = ⊥
IsBelow q (port ∷ ports) = IsFuture port.number port.splits q ⊎ IsBelow q ports

-- whether a port with this number, from which no other was split off, is one of these
abbrev pub IsLeaf : List ℕ → List JoinedPort → Type 0
IsLeaf q [] = ⊥
IsLeaf q (port ∷ ports) = ((q ≡ port.number) × (port.splits ≡ 0)) ⊎ IsLeaf q ports

module _ {E R : Type 0} where
  -- the call of this event with this reply by the port of this number
  abbrev pub entry : List ℕ → E → R → Entry E R
  entry number event reply = record { by = number; event = event; reply = reply }

  -- the calls that the port of this number made, in order
  abbrev pub calls_by : List ℕ → List (Entry E R) → List (Entry E R)
  calls_by number [] = []
  calls_by number (call ∷ calls) = if is_same_number call.by number
      then call ∷ calls_by number calls else calls_by number calls
