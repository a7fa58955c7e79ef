-- Why a campaign has no plan. Its parts are tested in this order: the common password, the list of
-- jobs, the passwords of the jobs.
--     IsPasswordFault     why a text gave no password
--     IsStoredFault       why a stored password is not taken
--     IsCommonFault       why the common password is not taken
--     IsListFault         why an input gave no jobs
--     IsWrongFor          why the lines of a list give jobs no passwords
--     IsTextFault         why a text gives jobs no passwords
--     IsJobsFault         why jobs have no passwords
--     IsPlanFault         why given jobs have no plan
--     IsCampaignFault     why the jobs of an input have no plan
use Rattle.std.specs.Prelude.{◌≡◌, ◌≢◌, ◌⊎◌, ℕ, codes, List, Option, Some, None, ⊤}
use Rattle.std.specs.Prelude.{Result, Ok, Err}
use Rattle.clap.specs.Matches.{first_value}
use Rattle.clap.specs.declared.parser.matches.Found.{Found}
use Rattle.acse_ber.specs.Password.{IsPassword}
use Rattle.client_core.specs.declared.job.Job.{Job}
use Rattle.head_end.specs.Jobs.{job_lines}
use Rattle.head_end.specs.JobPasswords.{LacksPassword, wrong_line_in}
use Rattle.program.specs.declared.fault.Fault.{Fault}
use Rattle.program.specs.declared.fault.Fault.TheVariants as program
use Rattle.head_end_commands.specs.Doubles.{HasDouble}
use Rattle.head_end_commands.specs.Lists.{AreJobsOf, HasNoList}
use Rattle.head_end_commands.specs.Passwords.{IsCommonPassword, IsStored}

-- whether this is why a text gave no password: it does not have 1 to 32 bytes, or else out of
-- memory
abbrev pub IsPasswordFault : List ℕ → Fault → Type 0
IsPasswordFault text program.Input = ¬ (IsPassword text)
IsPasswordFault text program.Memory = IsPassword text
IsPasswordFault text program.Read = ⊥
IsPasswordFault text program.Write = ⊥
IsPasswordFault text program.Listen = ⊥
IsPasswordFault text program.Turns = ⊥

-- whether the command line has a password, and this is why its text gave none
pub record HasGivenFault (found : Found) (fault : Fault) : Type 0 where
  pub text : List ℕ
  pub given : first_value found (codes "password") ≡ Some text
  pub fault_is : IsPasswordFault text fault

-- whether this is why a stored password is not taken, by how it was read: the fault of the read, or
-- why its text gave no password
abbrev pub IsStoredFault : Result (Option (List ℕ)) Fault → Fault → Type 0
IsStoredFault (Ok (Some text)) fault = IsPasswordFault text fault
IsStoredFault (Ok None) fault = ⊥
IsStoredFault (Err unread) fault = fault ≡ unread

-- whether the command line has no password, and this is why the stored one is not taken
pub record HasStoredFault (found : Found) (fault : Fault) : Type 0 where
  pub absent : first_value found (codes "password") ≡ None
  pub stored : Result (Option (List ℕ)) Fault
  pub is_stored : IsStored found stored
  pub fault_is : IsStoredFault stored fault

-- Whether this is why the common password is not taken: that of the command line, else the stored
-- one.
abbrev pub IsCommonFault : Found → Fault → Type 0
IsCommonFault found fault = HasGivenFault found fault ⊎ HasStoredFault found fault

-- whether this is why an input gave no jobs: it is not a list of jobs or is too long, a read
-- failed, or out of memory
abbrev pub IsListFault : Option (List ℕ) → Fault → Type 0
IsListFault input program.Input = HasNoList input
IsListFault input program.Read = ⊤
IsListFault input program.Memory = ⊤
IsListFault input program.Write = ⊥
IsListFault input program.Listen = ⊥
IsListFault input program.Turns = ⊥

-- whether jobs have no passwords by these lines and this common password: a line is wrong, a job
-- has no password, or two lines have one name
abbrev pub IsWrongFor : List Job → Option (List ℕ) → List (List ℕ) → Type 0
IsWrongFor jobs common lines = ((number : ℕ) × (wrong_line_in 1 lines ≡ Some number))
    ⊎ (((place : ℕ) × LacksPassword lines common jobs place) ⊎ HasDouble lines)

-- whether this is why jobs have no passwords by the lines of a text and this common password
abbrev pub IsTextFault : List ℕ → Option (List ℕ) → List Job → Fault → Type 0
IsTextFault text common jobs program.Input = IsWrongFor jobs common (job_lines text)
IsTextFault text common jobs program.Memory = ⊤
IsTextFault text common jobs program.Read = ⊥
IsTextFault text common jobs program.Write = ⊥
IsTextFault text common jobs program.Listen = ⊥
IsTextFault text common jobs program.Turns = ⊥

-- Whether this is why jobs have no passwords by the options and this common password. Without a
-- file of `--passwords` no read fails, and the fault is `Input` only if the common password is
-- missing.
abbrev pub IsJobsFault : Found → Option (List ℕ) → Fault → Type 0
IsJobsFault found common program.Input = first_value found (codes "passwords") ≡ None
    → common ≡ None
IsJobsFault found common program.Read = first_value found (codes "passwords") ≢ None
IsJobsFault found common program.Memory = ⊤
IsJobsFault found common program.Write = ⊥
IsJobsFault found common program.Listen = ⊥
IsJobsFault found common program.Turns = ⊥

-- ---- the order

-- whether the common password is taken, if there is one, and this is why jobs have no passwords
pub record LacksPasswords (found : Found) (fault : Fault) : Type 0 where
  pub common : Option (List ℕ)
  pub is_common : IsCommonPassword found common
  pub fault_is : IsJobsFault found common fault

-- whether the common password is taken, if there is one, and this is why an input gave no jobs
pub record LacksJobs (found : Found) (input : Option (List ℕ)) (fault : Fault) : Type 0 where
  pub common : Option (List ℕ)
  pub is_common : IsCommonPassword found common
  pub fault_is : IsListFault input fault

-- whether an input is a list of jobs, and this is why they have no passwords
pub record ListLacksPasswords (found : Found) (input : Option (List ℕ)) (fault : Fault)
    : Type 0 where
  pub jobs : List Job
  pub are_jobs : AreJobsOf input jobs
  pub lacks : LacksPasswords found fault

-- whether this is why given jobs have no plan: the common password, then the passwords of the jobs
abbrev pub IsPlanFault : Found → Fault → Type 0
IsPlanFault found fault = IsCommonFault found fault ⊎ LacksPasswords found fault

-- whether this is why the jobs of an input have no plan: the common password, then the list, then
-- the passwords of its jobs
abbrev pub IsCampaignFault : Found → Option (List ℕ) → Fault → Type 0
IsCampaignFault found input fault = IsCommonFault found fault
    ⊎ (LacksJobs found input fault ⊎ ListLacksPasswords found input fault)
