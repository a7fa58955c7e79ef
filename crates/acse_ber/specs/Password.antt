-- The password of low-level security (IEC 62056-5-3): the authentication value of an AARQ, which
-- the server compares with its own password.
use Rattle.std.specs.Prelude.{ℕ, ◌≤◌, List, length}

-- whether a password has 1 to 32 bytes
abbrev pub IsPassword : List ℕ → Type 0
IsPassword password = (1 ≤ length password) × (length password ≤ 32)
