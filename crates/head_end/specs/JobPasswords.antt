-- The passwords of jobs.
--     is_password_line  a line of a list of passwords
--     wrong_line_in     the number of the first wrong line
--     password_of       the password of a name, by the lines of a list
--     password_for      the password of a job: that of its name, else the common one
--     GivesPasswords    the passwords of all jobs
use Rattle.std.specs.Prelude.{◌≡◌, ℕ, suc, Bool, true, false, ◌&&◌, if◌then◌else◌, List, [], ◌∷◌}
use Rattle.std.specs.Prelude.{map, slice_index_or, take, bytes_eq, Option, Some, None, Result, Ok}
use Rattle.std.specs.Prelude.{Err, ⊤}
use Rattle.text_lines.specs.Words.{words_of}
use Rattle.client_core.specs.declared.job.Job.{Job}
use Rattle.head_end.specs.Jobs.{is_name}
use Rattle.head_end.specs.declared.passwords.PasswordsFault.{PasswordsFault}
use Rattle.head_end.specs.declared.passwords.PasswordsFault.TheVariants as fault

-- whether these words are a name and a password, each of 1 to 32 visible bytes
abbrev pub are_password_words : List (List ℕ) → Bool
are_password_words (name ∷ password ∷ []) = is_name 32 name && is_name 32 password
are_password_words _ = false

-- whether a line is empty, or a name and a password with one blank between them
abbrev pub is_password_line : List ℕ → Bool
is_password_line [] = true
is_password_line (byte ∷ bytes) = are_password_words (words_of (byte ∷ bytes))

-- the number of the first wrong line, if lines are numbered from here
unfoldable pub wrong_line_in : ℕ → List (List ℕ) → Option ℕ
wrong_line_in number [] = None
wrong_line_in number (line ∷ lines) =
    if is_password_line line then wrong_line_in (suc number) lines else Some number

-- the second of these words, if the first is this name
abbrev pub word_after : List ℕ → List (List ℕ) → Option (List ℕ)
word_after name (word ∷ password ∷ words) = if bytes_eq word name then Some password else None
word_after name _ = None

-- the password of a line, if it has this name
abbrev pub password_in : List ℕ → List ℕ → Option (List ℕ)
password_in name line = word_after name (words_of line)

-- a password, or another one if there is none
abbrev pub first_of : Option (List ℕ) → Option (List ℕ) → Option (List ℕ)
first_of (Some password) other = Some password
first_of None other = other

-- the password of a name: that of the first line with it
unfoldable pub password_of : List (List ℕ) → List ℕ → Option (List ℕ)
password_of [] name = None
password_of (line ∷ lines) name = first_of (password_in name line) (password_of lines name)

-- the password of a job: that of its name, else the common one
abbrev pub password_for : List (List ℕ) → Option (List ℕ) → Job → Option (List ℕ)
password_for lines common job = first_of (password_of lines job.id) common

-- whether these are the passwords of these jobs, by the lines of a list and the common password
abbrev pub HavePasswords : List (List ℕ) → Option (List ℕ) → List Job → List (List ℕ) → Type 0
HavePasswords lines common jobs passwords =
    map (λ password. Some password) passwords ≡ map (λ job. password_for lines common job) jobs

-- whether the job at this place is the first without a password
pub record LacksPassword (lines : List (List ℕ)) (common : Option (List ℕ)) (jobs : List Job)
    (place : ℕ) : Type 0 where
  pub passwords : List (List ℕ)
  pub earlier : HavePasswords lines common (take place jobs) passwords
  pub lacks : (job : Job) → password_for lines common (slice_index_or jobs place job) ≡ None

-- whether a result is the passwords of all jobs, the number of the first wrong line, the place of
-- the first job without a password, or out of memory
abbrev pub GivesPasswords : List (List ℕ) → Option (List ℕ) → List Job
    → Result (List (List ℕ)) PasswordsFault → Type 0
GivesPasswords lines common jobs (Ok passwords) = (wrong_line_in 1 lines ≡ None)
    × HavePasswords lines common jobs passwords
GivesPasswords lines common jobs (Err (fault.Line number)) = wrong_line_in 1 lines ≡ Some number
GivesPasswords lines common jobs (Err (fault.Job place)) = (wrong_line_in 1 lines ≡ None)
    × LacksPassword lines common jobs place
GivesPasswords lines common jobs (Err fault.Memory) = ⊤
