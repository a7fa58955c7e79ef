-- The password of a meter that has the fault `wrong-password`.
--     other_password   a password with another first byte
use Rattle.std.specs.Prelude.{ℕ, ◌==◌, if◌then◌else◌, List, [], ◌∷◌}

-- the digit 0, or the digit 1 instead of the digit 0
abbrev pub other_byte : ℕ → ℕ
other_byte byte = if byte == 48 then 49 else 48

-- this password with another first byte: the digit 0, or 1 if the password begins with 0
abbrev pub other_password : List ℕ → List ℕ
other_password [] = []
other_password (byte ∷ bytes) = other_byte byte ∷ bytes
