-- How a stored password was read.
use Rattle.std.proofs.Common.{◌≡◌, ◌∙◌, codes, Option, Some, None, Result, Ok, Err, String}
use Rattle.std.proofs.Common.{string_bytes, sym, ap}
use Rattle.std.specs.declared.env.VarError.{VarError}
use Rattle.std.specs.declared.env.VarError.TheVariants as variable
use Rattle.clap.specs.Matches.{first_value}
use Rattle.clap.specs.declared.parser.matches.Found.{Found}
use Rattle.program.specs.Passwords.{IsOfVariable, variable_password}
use Rattle.program.specs.declared.fault.Fault.{Fault}
use Rattle.head_end_commands.specs.Passwords.{IsStored, stored_bytes}

-- the bytes of what the environment's variable gives
bytes_of_variable : {Z : Type 0} (stored : Result (Option (String Z)) Fault)
    (variable : Result (String Z) VarError) → stored ≡ variable_password variable
    → IsOfVariable (stored_bytes stored)
bytes_of_variable stored (Ok text) is =
    record { variable = Ok (string_bytes text); is = ap stored_bytes is }
bytes_of_variable stored (Err variable.NotPresent) is =
    record { variable = Err variable.NotPresent; is = ap stored_bytes is }
bytes_of_variable stored (Err variable.NotUnicode) is =
    record { variable = Err variable.NotUnicode; is = ap stored_bytes is }
bytes_of_variable stored (Err variable.OutOfMemory) is =
    record { variable = Err variable.OutOfMemory; is = ap stored_bytes is }

-- without the name of a file the stored password is that of the environment
pub stored_variable : {Z : Type 0} (found : Found) (stored : Result (Option (String Z)) Fault)
    → first_value found (codes "password-file") ≡ None → IsOfVariable stored
    → IsStored found (stored_bytes stored)
stored_variable found stored no_file is = record {
  of_file = λ path named.
      absurd (let both : None ≡ Some path = sym no_file ∙ named in cc);
  of_variable = λ absent. bytes_of_variable stored is.variable is.is;
}
