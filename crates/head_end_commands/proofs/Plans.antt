-- Why there is no plan, from the faults of its parts.
use Rattle.std.proofs.Common.{◌≡◌, ◌≢◌, inl, inr, ℕ, true, codes, List, [], Option, Some, None}
use Rattle.std.proofs.Common.{Result, Ok, Err, IfErr, slice_index_or, zero, suc, refl, sym}
use Rattle.std.proofs.Common.{subst, ◌∙◌}
use Rattle.clap.specs.Matches.{first_value}
use Rattle.clap.specs.declared.parser.matches.Found.{Found}
use Rattle.client_core.specs.declared.job.Job.{Job}
use Rattle.client_core.specs.declared.job.Verb.TheVariants.{ReadState}
use Rattle.text_lines.specs.Lines.{lines_of, unended_of}
use Rattle.head_end.specs.Jobs.{job_lines}
use Rattle.head_end.specs.JobPasswords.{wrong_line_in, first_of, password_of, GivesPasswords}
use Rattle.head_end.specs.declared.passwords.PasswordsFault.{PasswordsFault}
use Rattle.head_end.specs.declared.passwords.PasswordsFault.TheVariants as passwords
use Rattle.program.specs.Passwords.{fault_of, is_of_files}
use Rattle.program.specs.declared.fault.Fault.{Fault}
use Rattle.program.specs.declared.fault.Fault.TheVariants as program
use Rattle.program.specs.declared.password.PasswordFault.{PasswordFault}
use Rattle.program.specs.declared.password.PasswordFault.TheVariants as password
use Rattle.head_end_commands.specs.Faults.{list_fault, passwords_fault}
use Rattle.head_end_commands.specs.Lists.{AreJobsOf, HasNoList}
use Rattle.head_end_commands.specs.Passwords.{IsCommonPassword}
use Rattle.head_end_commands.specs.PlanFaults.{IsListFault}
use Rattle.head_end_commands.specs.Doubles.{HasDouble, name_at}
use Rattle.head_end_commands.specs.PlanFaults.{IsWrongFor, IsTextFault, IsJobsFault, IsPlanFault}
use Rattle.head_end_commands.specs.PlanFaults.{IsCampaignFault}
use Rattle.head_end_commands.specs.declared.passwords.PasswordListFault.{PasswordListFault}
use Rattle.head_end_commands.specs.declared.passwords.PasswordListFault.TheVariants as list

-- ---- the passwords of the jobs

-- of the file of `--passwords`
pub file_kind : (fault : PasswordFault) → is_of_files (fault_of fault) ≡ true
file_kind password.Read = refl
file_kind password.Exposed = refl
file_kind password.Line = refl
file_kind password.Memory = refl

pub list_kind : (fault : PasswordListFault) → is_of_files (list_fault fault) ≡ true
list_kind (list.File fault) = file_kind fault
list_kind list.TooLong = refl
list_kind (list.Line number why) = refl
list_kind (list.Double number first) = refl

pub jobs_of_file : (found : Found) (common : Option (List ℕ)) (fault : Fault)
    → first_value found (codes "passwords") ≢ None → is_of_files fault ≡ true
    → IsJobsFault found common fault
jobs_of_file found common program.Input some kind = λ none. absurd (some none)
jobs_of_file found common program.Read some kind = some
jobs_of_file found common program.Memory some kind = tt
jobs_of_file found common program.Write some kind = absurd cc
jobs_of_file found common program.Listen some kind = absurd cc
jobs_of_file found common program.Turns some kind = absurd cc

-- of the lines of its text
no_wrong_line : wrong_line_in 1 (job_lines []) ≡ None
unfolding wrong_line_in lines_of unended_of
no_wrong_line = refl

no_common : (own common : Option (List ℕ)) → first_of own common ≡ None → common ≡ None
no_common (Some password) common is = absurd cc
no_common None common is = is

-- an empty text has one line, without a name
no_name : (place : ℕ) → name_at (job_lines []) place ≡ None
unfolding lines_of unended_of
no_name zero = refl
no_name (suc place) = refl

no_double : ¬ (HasDouble (job_lines []))
no_double double =
    let both : None ≡ Some double.2.name = sym (no_name double.1) ∙ double.2.of_second in absurd cc

-- an empty text has no wrong line and no double, so the common password is missing
empty_list : (common : Option (List ℕ)) (jobs : List Job) → IsWrongFor jobs common (job_lines [])
    → common ≡ None
empty_list common jobs (inl wrong) =
    absurd (let both : None ≡ Some wrong.0 = sym no_wrong_line ∙ wrong.1 in cc)
empty_list common jobs (inr (inl lacks)) =
    let job : Job = record { id = []; address = []; verb = ReadState } in
    no_common (password_of (job_lines []) (slice_index_or jobs lacks.0 job).id) common
    (lacks.1.lacks job)
empty_list common jobs (inr (inr double)) = absurd (no_double double)

pub text_of_list : (text : List ℕ) (common : Option (List ℕ)) (jobs : List Job)
    (fault : PasswordsFault) → GivesPasswords (job_lines text) common jobs (Err fault)
    → IsTextFault text common jobs (passwords_fault fault)
text_of_list text common jobs (passwords.Line number) gives = inl (number, gives)
text_of_list text common jobs (passwords.Job place) gives = inr (inl (place, gives.1))
text_of_list text common jobs passwords.Memory gives = tt

-- of its text
jobs_of_fault : (found : Found) (text : List ℕ) (common : Option (List ℕ)) (jobs : List Job)
    (fault : Fault) → (first_value found (codes "passwords") ≡ None → text ≡ [])
    → IsTextFault text common jobs fault → IsJobsFault found common fault
jobs_of_fault found text common jobs program.Input empty why = λ none.
    empty_list common jobs
    (subst (λ (t : List ℕ). IsWrongFor jobs common (job_lines t)) (empty none) why)
jobs_of_fault found text common jobs program.Memory empty why = tt
jobs_of_fault found text common jobs program.Read empty why = absurd why
jobs_of_fault found text common jobs program.Write empty why = absurd why
jobs_of_fault found text common jobs program.Listen empty why = absurd why
jobs_of_fault found text common jobs program.Turns empty why = absurd why

pub jobs_of_text : {A : Type 0} (found : Found) (text : List ℕ) (common : Option (List ℕ))
    (jobs : List Job) (result : Result A Fault)
    → (first_value found (codes "passwords") ≡ None → text ≡ [])
    → IfErr result (IsTextFault text common jobs) → IfErr result (IsJobsFault found common)
jobs_of_text found text common jobs (Ok value) empty why = tt
jobs_of_text found text common jobs (Err fault) empty why =
    jobs_of_fault found text common jobs fault empty why

-- ---- the plan

pub plan_of_jobs : {A : Type 0} (found : Found) (common : Option (List ℕ)) (result : Result A Fault)
    → IsCommonPassword found common → IfErr result (IsJobsFault found common)
    → IfErr result (IsPlanFault found)
plan_of_jobs found common (Ok value) is why = tt
plan_of_jobs found common (Err fault) is why =
    inr (record { common = common; is_common = is; fault_is = why })

pub list_of_kind : (input : Option (List ℕ)) (fault : Fault) → is_of_files fault ≡ true
    → (fault ≡ program.Input → HasNoList input) → IsListFault input fault
list_of_kind input program.Input kind no_list = no_list refl
list_of_kind input program.Read kind no_list = tt
list_of_kind input program.Memory kind no_list = tt
list_of_kind input program.Write kind no_list = absurd cc
list_of_kind input program.Listen kind no_list = absurd cc
list_of_kind input program.Turns kind no_list = absurd cc

pub campaign_of_list : (found : Found) (common : Option (List ℕ)) (input : Option (List ℕ))
    (fault : Fault) → IsCommonPassword found common → is_of_files fault ≡ true
    → (fault ≡ program.Input → HasNoList input) → IsCampaignFault found input fault
campaign_of_list found common input fault is kind no_list =
    inr (inl (record {
      common = common;
      is_common = is;
      fault_is = list_of_kind input fault kind no_list;
    }))

pub campaign_of_jobs : {A : Type 0} (found : Found) (common : Option (List ℕ))
    (input : Option (List ℕ)) (jobs : List Job) (result : Result A Fault)
    → IsCommonPassword found common → AreJobsOf input jobs
    → IfErr result (IsJobsFault found common) → IfErr result (IsCampaignFault found input)
campaign_of_jobs found common input jobs (Ok value) is are why = tt
campaign_of_jobs found common input jobs (Err fault) is are why =
    inr (inr (record {
      jobs = jobs;
      are_jobs = are;
      lacks = record { common = common; is_common = is; fault_is = why };
    }))
