-- Reading from the front of bytes, or of other tokens: the steps that every format has, with a
-- fault if there are too few.
--     Reads                     how a step of code is compared with a definition: the value and the
--                               bytes after it, or the first fault
--     read_as, whole_or         what was read as another value; with nothing after it
--     first_token               the next token
--     first_byte, first_bytes   the next byte, the next bytes
use Rattle.std.specs.Prelude.{◌≡◌, ℕ, nat_le, List, [], ◌∷◌, length, take, drop, Result, Ok, Err}
use Rattle.wire_bytes.specs.Outcome.{◌>>=◌, ◌>>◌, guard}

-- whether a step of code returned the value of the definition and left the definition's rest, or
-- returned its fault
abbrev pub Reads : {X Y F : Type 0} → (X → Y) → Result X F → List ℕ → Result (Y × List ℕ) F → Type 0
Reads view (Ok x) new given = given ≡ Ok (view x, new)
Reads view (Err fault) new given = given ≡ Err fault

-- what was read, as another value
abbrev pub read_as : {S X Y F : Type 0} → (X → Y) → Result (X × S) F → Result (Y × S) F
read_as make read = do
  x ← read
  Ok (make x.0, x.1)

-- the value that was read, if nothing is left after it
abbrev pub whole_or : {T X F : Type 0} → F → Result (X × List T) F → Result X F
whole_or fault (Err first) = Err first
whole_or fault (Ok (x, [])) = Ok x
whole_or fault (Ok (x, token ∷ rest)) = Err fault

-- the next token
abbrev pub first_token : {T F : Type 0} → F → List T → Result (T × List T) F
first_token fault [] = Err fault
first_token fault (token ∷ rest) = Ok (token, rest)

-- the next byte
abbrev pub first_byte : {F : Type 0} → F → List ℕ → Result (ℕ × List ℕ) F
first_byte fault bytes = first_token fault bytes

-- the next n bytes, or the fault if there are fewer
abbrev pub first_bytes : {F : Type 0} → F → ℕ → List ℕ → Result (List ℕ × List ℕ) F
first_bytes fault n bytes = do
  guard (nat_le n (length bytes)) fault
  Ok (take n bytes, drop n bytes)
