-- The passwords of the jobs of `run` and `ask`.
--     stored_bytes      the bytes of a stored password, by how it was read
--     IsOfFile          how the password of a file can have been read
--     IsStored          how the password that is not on the command line can have been read
--     IsCommonPassword  the password of jobs without one of their own
--     ArePasswords      the passwords of all jobs, by the file of `--passwords` and the common one
--     HasPasswords      the passwords of a campaign's jobs
use Rattle.std.specs.Prelude.{◌≡◌, ◌≤◌, ℕ, true, codes, List, [], length, Option, Some, None}
use Rattle.std.specs.Prelude.{IfSome, Result, Ok, Err, String, string_bytes}
use Rattle.clap.specs.Matches.{first_value}
use Rattle.clap.specs.declared.parser.matches.Found.{Found}
use Rattle.acse_ber.specs.Password.{IsPassword}
use Rattle.client_core.specs.declared.job.Job.{Job}
use Rattle.head_end.specs.Jobs.{job_lines}
use Rattle.head_end.specs.JobPasswords.{HavePasswords, wrong_line_in}
use Rattle.program.specs.Passwords.{HasNoLineEnd, IsOfVariable, is_of_files}
use Rattle.program.specs.declared.fault.Fault.{Fault}
use Rattle.head_end_commands.specs.Doubles.{HasDouble}

-- the bytes of a stored password, by how it was read
abbrev pub stored_bytes : {Z : Type 0} → Result (Option (String Z)) Fault
    → Result (Option (List ℕ)) Fault
stored_bytes (Ok (Some text)) = Ok (Some (string_bytes text))
stored_bytes (Ok None) = Ok None
stored_bytes (Err fault) = Err fault

-- whether the password of a file can have been read like this: it is one line of at most 1,024
-- bytes, or the fault is that of a file
abbrev pub IsOfFile : Result (Option (List ℕ)) Fault → Type 0
IsOfFile (Ok (Some text)) = HasNoLineEnd text × (length text ≤ 1024)
IsOfFile (Ok None) = ⊥
IsOfFile (Err fault) = is_of_files fault ≡ true

-- whether the password that is not on the command line can have been read like this: it is that of
-- the file that the command line names, else that of the environment's variable
pub record IsStored (found : Found) (stored : Result (Option (List ℕ)) Fault) : Type 0 where
  pub of_file : (path : List ℕ) → first_value found (codes "password-file") ≡ Some path
      → IsOfFile stored
  pub of_variable : first_value found (codes "password-file") ≡ None → IsOfVariable stored

-- whether this is the common password: that of the command line, else the stored one, if there is
-- one
pub record IsCommonPassword (found : Found) (common : Option (List ℕ)) : Type 0 where
  pub sized : IfSome common IsPassword
  pub given : (text : List ℕ) → first_value found (codes "password") ≡ Some text
      → common ≡ Some text
  pub stored : first_value found (codes "password") ≡ None → IsStored found (Ok common)

-- Whether each job has the password of its name in some list of passwords, else the common one. No
-- line of the list is wrong, and no two lines have one name. Without the option `--passwords` its
-- text is empty.
pub record ArePasswords (found : Found) (common : Option (List ℕ)) (jobs : List Job)
    (passwords : List (List ℕ)) : Type 0 where
  pub text : List ℕ
  pub no_file : first_value found (codes "passwords") ≡ None → text ≡ []
  pub no_wrong_line : wrong_line_in 1 (job_lines text) ≡ None
  pub no_double : ¬ (HasDouble (job_lines text))
  pub are : HavePasswords (job_lines text) common jobs passwords

-- whether each job has the password that the options give it: that of its name, else the common one
pub record HasPasswords (found : Found) (jobs : List Job) (passwords : List (List ℕ))
    : Type 0 where
  pub common : Option (List ℕ)
  pub is_common : IsCommonPassword found common
  pub are : ArePasswords found common jobs passwords
