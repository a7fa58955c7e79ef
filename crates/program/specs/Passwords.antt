-- A password in a file or in the environment.
--     HasNoLineEnd       a text that is one line
--     SplitsLineEnd      bytes without the byte 0A that may end them
--     IsFileOf           the bytes of a file that has one line
--     IsExposed          the permissions of a file that others than its owner may use
--     IsLineFault        why the bytes of a file are not one line
--     ReadsLine          a file was read to its end, and has one line
--     IsFileFault        why a file gave no password
--     fault_of           the program's fault for a file without a password
--     is_of_files        the program's faults that a file without a password can have
--     variable_password  what the environment's variable gives, by how it was read
--     IsOfVariable       what the environment's variable can give
use Rattle.std.specs.Prelude.{◌≡◌, ◌≢◌, ◌⊎◌, ◌<◌, ◌≤◌, ◌%◌, ℕ, Bool, true, false, ⊤}
use Rattle.std.specs.Prelude.{Option, Some, None, Result, Ok, Err}
use Rattle.std.specs.Prelude.{List, [], ◌∷◌, ◌++◌, All, length, IsUtf8}
use Rattle.std.specs.Io.KnownBytes.{Consumes, IsAtEnd}
use Rattle.std.specs.declared.env.VarError.{VarError}
use Rattle.std.specs.declared.env.VarError.TheVariants as variable
use Rattle.program.specs.declared.fault.Fault.{Fault}
use Rattle.program.specs.declared.fault.Fault.TheVariants as fault
use Rattle.program.specs.declared.password.PasswordFault.{PasswordFault}
use Rattle.program.specs.declared.password.PasswordFault.TheVariants as password

-- whether no byte of a text is 0A, which ends a line
abbrev pub HasNoLineEnd : List ℕ → Type 0
HasNoLineEnd text = All (λ byte. byte ≢ 10) text

-- whether this is the line that the bytes hold: what is before a final byte 0A, or all of them if
-- they do not end with one
abbrev pub SplitsLineEnd : List ℕ → List ℕ → Type 0
SplitsLineEnd bytes line = (bytes ≡ line ++ 10 ∷ [])
    ⊎ ((bytes ≡ line) × ((front : List ℕ) → bytes ≢ front ++ 10 ∷ []))

-- whether the bytes of a file are this one line, with or without the byte 0A at its end
pub record IsFileOf (text bytes : List ℕ) : Type 0 where
  pub one_line : HasNoLineEnd text
  pub bytes_are : (bytes ≡ text) ⊎ (bytes ≡ text ++ 10 ∷ [])

-- whether others than the file's owner may read, change or run it: in a mode of POSIX the six
-- lowest bits are the permissions of the group and of all others
abbrev pub IsExposed : ℕ → Type 0
IsExposed mode = mode % 64 ≢ 0

-- whether this is why these bytes of a file gave no line: they are not one line of UTF-8 text, or
-- out of memory
abbrev pub IsLineFault : List ℕ → PasswordFault → Type 0
IsLineFault bytes password.Read = ⊥
IsLineFault bytes password.Exposed = ⊥
IsLineFault bytes password.Line = (text : List ℕ) → IsUtf8 text → ¬ (IsFileOf text bytes)
IsLineFault bytes password.Memory = ⊤

-- whether a file was read to its end, and its bytes, at most 1,024, are this one line
pub record ReadsLine (left left' : Option (List ℕ)) (text : List ℕ) : Type 0 where
  pub bytes : List ℕ
  pub read : Consumes left left' bytes
  pub at_end : IsAtEnd left'
  pub within_max : length bytes ≤ 1024
  pub is_file : IsFileOf text bytes

-- whether the bytes that were read of a file are more than 1,024, or they are all and not one line
pub record HasNoLine (left left' : Option (List ℕ)) : Type 0 where
  pub bytes : List ℕ
  pub read : Consumes left left' bytes
  pub cause : (1024 < length bytes) ⊎ (IsAtEnd left' × IsLineFault bytes password.Line)

-- whether this is why an open file of this mode gave no password; `failed` reads had failed before,
-- `failed'` after
abbrev pub IsFileFault : ℕ → Option (List ℕ) → ℕ → Option (List ℕ) → ℕ → PasswordFault → Type 0
IsFileFault mode left failed left' failed' password.Read = failed < failed'
IsFileFault mode left failed left' failed' password.Exposed = IsExposed mode
IsFileFault mode left failed left' failed' password.Line = HasNoLine left left'
IsFileFault mode left failed left' failed' password.Memory = ⊤

-- the program's fault for a file that gave no password: it cannot be read, it is exposed or has no
-- password, or memory ran out
abbrev pub fault_of : PasswordFault → Fault
fault_of password.Read = fault.Read
fault_of password.Exposed = fault.Input
fault_of password.Line = fault.Input
fault_of password.Memory = fault.Memory

-- whether a fault can result from a file without a password
abbrev pub is_of_files : Fault → Bool
is_of_files fault.Input = true
is_of_files fault.Read = true
is_of_files fault.Memory = true
is_of_files _ = false

-- what the environment's variable gives, by how it was read: its text, `None` if it is not set, or
-- the program's fault: it is not UTF-8, or memory ran out
abbrev pub variable_password : {T : Type 0} → Result T VarError → Result (Option T) Fault
variable_password (Ok text) = Ok (Some text)
variable_password (Err variable.NotPresent) = Ok None
variable_password (Err variable.NotUnicode) = Err fault.Input
variable_password (Err variable.OutOfMemory) = Err fault.Memory

-- whether the environment's variable gives this, by how it was read
pub record IsOfVariable {T : Type 0} (password : Result (Option T) Fault) : Type 0 where
  pub variable : Result T VarError
  pub is : password ≡ variable_password variable
