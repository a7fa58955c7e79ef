-- Lists of passwords that are read line by line.
use Rattle.std.proofs.Common.{◌≡◌, ◌+◌, ◌<◌, ℕ, suc, add-one, Bool, true, false, ◌&&◌}
use Rattle.std.proofs.Common.{bytes_eq, if◌then◌else◌, List, [], ◌∷◌, ◌++◌, length}
use Rattle.std.proofs.Common.{take, slice_index_or, Option, Some, None, refl, sym, ap, subst, ◌∙◌}
use Rattle.std.proofs.Common.{arith}
use Rattle.std.proofs.lemmas.Grind.{common_steps}
use Rattle.text_lines.specs.Lines.{lines_of, unended_of}
use Rattle.head_end.proofs.ReadingLemmas.{lines_taken, lines_last}
use Rattle.acse_ber.specs.Password.{IsPassword}
use Rattle.text_lines.specs.Words.{words_of}
use Rattle.client_core.specs.declared.job.Job.{Job}
use Rattle.head_end.specs.Jobs.{is_name, job_lines}
use Rattle.head_end.specs.JobPasswords.{are_password_words, is_password_line, wrong_line_in}
use Rattle.head_end.specs.JobPasswords.{word_after, first_of, password_in, password_of}
use Rattle.head_end.specs.JobPasswords.{password_for, HavePasswords}

-- the first wrong line is that of the lines that are left
pub record LeftLines (text : List ℕ) (number : ℕ) (rest : List ℕ) : Type 0 where
  pub wrong : wrong_line_in 1 (job_lines text) ≡ wrong_line_in number (job_lines rest)
  pub count : number + length (lines_of rest) ≡ 1 + length (lines_of text)

wrong_line_in-cons : (number : ℕ) (line : List ℕ) (lines : List (List ℕ))
    → wrong_line_in number (line ∷ lines)
    ≡ (if is_password_line line then wrong_line_in (suc number) lines else Some number)
unfolding wrong_line_in
wrong_line_in-cons number line lines = refl

wrong_line_in-nil : (number : ℕ) → wrong_line_in number [] ≡ None
unfolding wrong_line_in
wrong_line_in-nil number = refl

-- the lines that are left begin with this one
first_line : (text rest line : List ℕ) (number : ℕ) (lines : List (List ℕ))
    → LeftLines text number rest → job_lines rest ≡ line ∷ lines → wrong_line_in 1 (job_lines text)
    ≡ (if is_password_line line then wrong_line_in (suc number) lines else Some number)
first_line text rest line number lines left taken =
    left.wrong ∙ ap (wrong_line_in number) taken ∙ wrong_line_in-cons number line lines

pub wrong_here : (text rest line behind : List ℕ) (number : ℕ) → LeftLines text number rest
    → lines_of rest ≡ line ∷ lines_of behind → unended_of rest ≡ unended_of behind
    → is_password_line line ≡ false → Some number ≡ wrong_line_in 1 (job_lines text)
wrong_here text rest line behind number left lines unended is =
    sym (first_line text rest line number (job_lines behind) left
    (lines_taken rest line behind lines unended)
    ∙ ap (λ b. if b then wrong_line_in (suc number) (job_lines behind) else Some number) is)

pub right_here : (text rest line behind : List ℕ) (number : ℕ) → LeftLines text number rest
    → lines_of rest ≡ line ∷ lines_of behind → unended_of rest ≡ unended_of behind
    → is_password_line line ≡ true → LeftLines text (number + 1) behind
right_here text rest line behind number left lines unended is = record {
  wrong = rw add-one (first_line text rest line number (job_lines behind) left
      (lines_taken rest line behind lines unended)
      ∙ ap (λ b. if b then wrong_line_in (suc number) (job_lines behind) else Some number) is);
  count = omega (arith, left.count, ap length lines);
}

pub wrong_last : (text rest : List ℕ) (number : ℕ) → LeftLines text number rest
    → lines_of rest ≡ [] → unended_of rest ≡ rest → is_password_line rest ≡ false
    → Some number ≡ wrong_line_in 1 (job_lines text)
wrong_last text rest number left lines unended is =
    sym (first_line text rest rest number [] left (lines_last rest lines unended)
    ∙ ap (λ b. if b then wrong_line_in (suc number) [] else Some number) is)

pub right_last : (text rest : List ℕ) (number : ℕ) → LeftLines text number rest
    → lines_of rest ≡ [] → unended_of rest ≡ rest → is_password_line rest ≡ true
    → None ≡ wrong_line_in 1 (job_lines text)
right_last text rest number left lines unended is =
    sym (first_line text rest rest number [] left (lines_last rest lines unended)
    ∙ ap (λ b. if b then wrong_line_in (suc number) [] else Some number) is
    ∙ wrong_line_in-nil (suc number))

-- ---- the password of a name

password_of-cons : (line name : List ℕ) (lines : List (List ℕ))
    → password_of (line ∷ lines) name ≡ first_of (password_in name line) (password_of lines name)
unfolding password_of
password_of-cons line name lines = refl

password_of-nil : (name : List ℕ) → password_of [] name ≡ None
unfolding password_of
password_of-nil name = refl

-- the first of the lines that are left has the name
pub found_here : (text rest line behind name password : List ℕ)
    → password_of (job_lines text) name ≡ password_of (job_lines rest) name
    → lines_of rest ≡ line ∷ lines_of behind → unended_of rest ≡ unended_of behind
    → password_in name line ≡ Some password → Some password ≡ password_of (job_lines text) name
found_here text rest line behind name password left lines unended is =
    sym (left ∙ ap (λ ls. password_of ls name) (lines_taken rest line behind lines unended)
    ∙ password_of-cons line name (job_lines behind)
    ∙ ap (λ p. first_of p (password_of (job_lines behind) name)) is)

-- it has another name
pub found_later : (text rest line behind name : List ℕ)
    → password_of (job_lines text) name ≡ password_of (job_lines rest) name
    → lines_of rest ≡ line ∷ lines_of behind → unended_of rest ≡ unended_of behind
    → password_in name line ≡ None
    → password_of (job_lines text) name ≡ password_of (job_lines behind) name
found_later text rest line behind name left lines unended is =
    left ∙ ap (λ ls. password_of ls name) (lines_taken rest line behind lines unended)
    ∙ password_of-cons line name (job_lines behind)
    ∙ ap (λ p. first_of p (password_of (job_lines behind) name)) is

first_of-none : (p : Option (List ℕ)) → first_of p None ≡ p
first_of-none None = refl
first_of-none (Some password) = refl

-- only the last line is left
pub found_last : (text rest name : List ℕ) (result : Option (List ℕ))
    → password_of (job_lines text) name ≡ password_of (job_lines rest) name
    → lines_of rest ≡ [] → unended_of rest ≡ rest → result ≡ password_in name rest
    → result ≡ password_of (job_lines text) name
found_last text rest name result left lines unended is =
    is ∙ sym (left ∙ ap (λ ls. password_of ls name) (lines_last rest lines unended)
    ∙ password_of-cons rest name []
    ∙ ap (first_of (password_in name rest)) (password_of-nil name)
    ∙ first_of-none (password_in name rest))

-- ---- the length of a password

size_of_name : (word : List ℕ) → is_name 32 word ≡ true → IsPassword word
size_of_name word is = grind (arith, common_steps)

and_right : (a b : Bool) → (a && b) ≡ true → b ≡ true
and_right true b is = is
and_right false b is = absurd cc

second_is : (b : Bool) (own password : List ℕ) → (if b then Some own else None) ≡ Some password
    → own ≡ password
second_is true own password is = cc
second_is false own password is = absurd cc

size_of_word : (name password : List ℕ) (words : List (List ℕ)) → are_password_words words ≡ true
    → word_after name words ≡ Some password → IsPassword password
size_of_word name password [] right is = absurd cc
size_of_word name password (word ∷ []) right is = absurd cc
size_of_word name password (word ∷ own ∷ []) right is =
    subst IsPassword (second_is (bytes_eq word name) own password is)
    (size_of_name own (and_right (is_name 32 word) (is_name 32 own) right))
size_of_word name password (word ∷ own ∷ more ∷ words) right is = absurd cc

words_of-nil : words_of [] ≡ [] ∷ []
unfolding words_of
words_of-nil = refl

size_in_line : (name password line : List ℕ) → is_password_line line ≡ true
    → password_in name line ≡ Some password → IsPassword password
size_in_line name password [] right is =
    let none : None ≡ Some password = sym (ap (word_after name) words_of-nil) ∙ is in absurd cc
size_in_line name password (byte ∷ bytes) right is =
    size_of_word name password (words_of (byte ∷ bytes)) right is

-- a password of a valid line, or of the valid lines after it
size_here : (name password : List ℕ) (number : ℕ) (line : List ℕ) (lines : List (List ℕ))
    (b : Bool) (own : Option (List ℕ)) → is_password_line line ≡ b → password_in name line ≡ own
    → (if b then wrong_line_in (suc number) lines else Some number) ≡ None
    → first_of own (password_of lines name) ≡ Some password
    → (wrong_line_in (suc number) lines ≡ None → password_of lines name ≡ Some password
    → IsPassword password) → IsPassword password
size_here name password number line lines false own is_right is_own right is later = absurd cc
size_here name password number line lines true None is_right is_own right is later = later right is
size_here name password number line lines true (Some found) is_right is_own right is later =
    size_in_line name password line is_right (is_own ∙ is)

-- a password of valid lines has 1 to 32 bytes
size_in_lines : (name password : List ℕ) (number : ℕ) (lines : List (List ℕ))
    → wrong_line_in number lines ≡ None → password_of lines name ≡ Some password
    → IsPassword password
size_in_lines name password number [] right is =
    let none : None ≡ Some password = sym (password_of-nil name) ∙ is in absurd cc
size_in_lines name password number (line ∷ lines) right is =
    size_here name password number line lines (is_password_line line) (password_in name line) refl
    refl (sym (wrong_line_in-cons number line lines) ∙ right)
    (sym (password_of-cons line name lines) ∙ is)
    (λ right_later is_later. size_in_lines name password (suc number) lines right_later is_later)

pub sized_in_text : (text name password : List ℕ) → wrong_line_in 1 (job_lines text) ≡ None
    → Some password ≡ password_of (job_lines text) name → IsPassword password
sized_in_text text name password right is =
    size_in_lines name password 1 (job_lines text) right (sym is)

-- ---- the passwords of jobs

-- the password of one job more
pub have_more : (lines : List (List ℕ)) (common : Option (List ℕ)) (jobs : List Job) (i : ℕ)
    (job : Job) (passwords new : List (List ℕ)) (password : List ℕ) → i < length jobs
    → job ≡ slice_index_or jobs i job → Some password ≡ password_for lines common job
    → HavePasswords lines common (take i jobs) passwords → new ≡ passwords ++ password ∷ []
    → HavePasswords lines common (take (i + 1) jobs) new
have_more lines common jobs i job passwords new password below is is_own before same =
    grind (arith, common_steps)
