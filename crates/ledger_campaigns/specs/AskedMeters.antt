-- What comes of asking meters.
--     answers_of        the answers that report a state
--     IsAsked           the meters were asked, and the report and the answers are theirs
use Rattle.std.specs.Prelude.{◌≡◌, ℕ, List, [], ◌∷◌, ◌++◌, length, Option}
use Rattle.client_core.specs.declared.job.Job.{Job}
use Rattle.client_core.specs.declared.job.Outcome.TheVariants.{Done, Refused, Rejected, Unknown}
use Rattle.head_end.specs.Attempts.{State}
use Rattle.head_end.specs.Campaigns.{turns_for, AreTriedWith}
use Rattle.head_end.specs.Connections.{Forecast}
use Rattle.head_end.specs.Reports.{report_text}
use Rattle.head_end.specs.Rows.{AreLines}
use Rattle.head_end.specs.declared.row.ReportLine.{ReportLine}
use Rattle.head_end.specs.declared.row.Row.{Row}
use Rattle.head_end.specs.declared.row.Row.TheVariants.{Came, Memory}
use Rattle.ledger_reports.specs.declared.answer.StateAnswer.{StateAnswer}
use Rattle.ledger_campaigns.specs.declared.asked_meters.AskedMeters.{AskedMeters}

-- the answer with this state to a question
abbrev pub answer_with : Option ℕ → Job → ℕ → StateAnswer
answer_with asked_at job number = record {
  name = job.id;
  address = job.address;
  answer = record { state = number; asked_at = asked_at };
}

-- the answer in a row, if it reports a state
abbrev pub answer_in : Option ℕ → Job → Row → List StateAnswer
answer_in asked_at job (Came (Done number)) = answer_with asked_at job number ∷ []
answer_in asked_at job (Came (Refused number)) = []
answer_in asked_at job (Came (Rejected number)) = []
answer_in asked_at job (Came Unknown) = []
answer_in asked_at job Memory = []

-- the answers to these questions that report a state, by the lines of the report, in their order
abbrev pub answers_of : Option ℕ → List Job → List ReportLine → List StateAnswer
answers_of asked_at (job ∷ jobs) (line ∷ lines) =
    answer_in asked_at job line.row ++ answers_of asked_at jobs lines
answers_of asked_at (job ∷ jobs) [] = []
answers_of asked_at [] lines = []

-- Whether the meters of these jobs were asked, each on one connection at most: the text is the
-- report, and the answers are those of its lines.
pub record IsAsked (tells : List ℕ → Option Forecast) (workers : ℕ) (jobs : List Job)
    (passwords : List (List ℕ)) (asked_at : Option ℕ) (asked : AskedMeters) : Type 0 where
  pub lines : List ReportLine
  pub stages : List State
  pub lines_are : AreLines tells jobs lines
  pub tried : AreTriedWith (turns_for (length jobs) workers) workers jobs passwords lines stages
  pub text_is : asked.text ≡ report_text lines
  pub answers_are : asked.answers.items ≡ answers_of asked_at jobs lines
