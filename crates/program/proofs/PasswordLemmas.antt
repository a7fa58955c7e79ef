-- Why a file has no password, and the program's fault.
use Rattle.std.proofs.Common.{◌≡◌, ◌≢◌, ◌⊎◌, ◌≤◌, inl, inr, ℕ, true, false, ◌==◌, Option, Result}
use Rattle.std.proofs.Common.{Ok, Err, IfErr, List, [], ◌∷◌, ◌++◌, length, get_or}
use Rattle.std.proofs.Common.{refl, sym, ap, ◌∙◌, subst, arith}
use Rattle.std.proofs.lemmas.Bool.{ne_eqb}
use Rattle.std.proofs.lemmas.List.{append_cancel_right, get_or_push, length_push}
use Rattle.std.proofs.lemmas.List.Folds.{list_any_none}
use Rattle.std.specs.List.{list_any}
use Rattle.std.specs.Io.KnownBytes.{Consumes, IsAtEnd}
use Rattle.program.specs.Passwords.{HasNoLineEnd, IsFileFault, IsFileOf, IsLineFault}
use Rattle.program.specs.Passwords.{SplitsLineEnd, fault_of, is_of_files}
use Rattle.program.specs.declared.fault.Fault.{Fault}
use Rattle.program.specs.declared.password.PasswordFault.{PasswordFault}
use Rattle.program.specs.declared.password.PasswordFault.TheVariants as password

-- one line does not end with the byte 0A
not_ended : (text front : List ℕ) → HasNoLineEnd text → text ≢ front ++ 10 ∷ []
not_ended text front one_line same =
    one_line (length front) 0
    (omega (arith, ap (λ (l : List ℕ). length l) same, length_push front 10))
    (ap (λ (l : List ℕ). get_or l (length front) 0) same
    ∙ get_or_push front 10 0 (length front) refl)

-- the line of a file is its bytes without the byte 0A that may end them
same_line : (bytes line text : List ℕ) → SplitsLineEnd bytes line → HasNoLineEnd text
    → (bytes ≡ text) ⊎ (bytes ≡ text ++ 10 ∷ []) → text ≡ line
same_line bytes line text (inl ended) one_line (inl same) =
    absurd (not_ended text line one_line (sym same ∙ ended))
same_line bytes line text (inl ended) one_line (inr same) =
    append_cancel_right text line (10 ∷ []) (sym same ∙ ended)
same_line bytes line text (inr whole) one_line (inl same) = sym same ∙ whole.0
same_line bytes line text (inr whole) one_line (inr same) = absurd (whole.1 text same)

line_is : (bytes line text : List ℕ) → SplitsLineEnd bytes line → IsFileOf text bytes → text ≡ line
line_is bytes line text split file = same_line bytes line text split file.one_line file.bytes_are

-- the line of a small file is small
pub line_within_max : (text bytes : List ℕ) → IsFileOf text bytes → length bytes ≤ 1024
    → length text ≤ 1024
line_within_max text bytes file within_max = within (file.bytes_are)
  where
    within : (bytes ≡ text) ⊎ (bytes ≡ text ++ 10 ∷ []) → length text ≤ 1024
    within (inl same) = omega (arith, within_max, ap (λ (l : List ℕ). length l) same)
    within (inr same) =
        omega (arith, within_max, ap (λ (l : List ℕ). length l) same, length_push text 10)

-- a file with another byte 0A has no line
pub further_line : (bytes line : List ℕ) → SplitsLineEnd bytes line
    → list_any (λ byte. byte == 10) line ≡ true → IsLineFault bytes password.Line
further_line bytes line split found text utf8 file =
    let one_line : HasNoLineEnd line = subst HasNoLineEnd (line_is bytes line text split file)
    file.one_line in
    let none : list_any (λ byte. byte == 10) line ≡ false = list_any_none (λ byte. byte == 10) line
    (λ k d below. ne_eqb (get_or line k d) 10 (one_line k d below)) in
    let never = sym found ∙ none in absurd cc

-- a file that was read to its end gave no line
pub no_line_read : {X : Type 0} (mode : ℕ) (left left' : Option (List ℕ)) (failed failed' : ℕ)
    (bytes : List ℕ) (result : Result X PasswordFault) → Consumes left left' bytes → IsAtEnd left'
    → IfErr result (IsLineFault bytes)
    → IfErr result (IsFileFault mode left failed left' failed')
no_line_read mode left left' failed failed' bytes (Ok text) read at_end is = tt
no_line_read mode left left' failed failed' bytes (Err password.Read) read at_end is = absurd is
no_line_read mode left left' failed failed' bytes (Err password.Exposed) read at_end is = absurd is
no_line_read mode left left' failed failed' bytes (Err password.Line) read at_end is = record {
  bytes = bytes;
  read = read;
  cause = inr (at_end, is);
}
no_line_read mode left left' failed failed' bytes (Err password.Memory) read at_end is = tt

-- the fault of the program for a file without a password
pub fault_of_files : (fault : PasswordFault) (program : Fault) → program ≡ fault_of fault
    → is_of_files program ≡ true
fault_of_files password.Read program is = ap is_of_files is
fault_of_files password.Exposed program is = ap is_of_files is
fault_of_files password.Line program is = ap is_of_files is
fault_of_files password.Memory program is = ap is_of_files is
