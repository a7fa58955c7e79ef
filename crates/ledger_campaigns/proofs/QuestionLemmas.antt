-- What holds of each question.
use Rattle.std.proofs.Common.{List, [], ◌∷◌, ◌++◌}
use Rattle.std.specs.List.{flat_map, AllByRecursion}
use Rattle.client_core.specs.declared.job.Job.{Job}
use Rattle.ledger_reports.specs.Status.{standing_of}
use Rattle.ledger_reports.specs.declared.line.LedgerLine.{LedgerLine}
use Rattle.ledger_reports.specs.declared.state.Standing.{Standing}
use Rattle.ledger_reports.specs.declared.state.Standing.TheVariants.{Done, Refused, Rejected}
use Rattle.ledger_reports.specs.declared.state.Standing.TheVariants.{Unknown, NotSent}
use Rattle.ledger_campaigns.specs.Questions.{question, question_for, question_in, questions}

module _ (P : Job → Type 0) (asks : (job : Job) → P (question job)) where
  -- what holds of the question of any job holds of one more
  one_more : (job : Job) (standing : Standing) (others : List Job) → AllByRecursion P others
      → AllByRecursion P (question_for job standing ++ others)
  one_more job Done others all = all
  one_more job Refused others all = all
  one_more job Rejected others all = all
  one_more job Unknown others all = (asks job, all)
  one_more job NotSent others all = all

  each_of : (lines : List LedgerLine) → AllByRecursion P (flat_map question_in lines)
  each_of [] = tt
  each_of (line ∷ lines) = one_more line.job (standing_of line.entry) _ (each_of lines)

  -- what holds of the question of any job holds of all questions
  pub all_questions : (lines : List LedgerLine) → AllByRecursion P (questions lines)
  unfolding questions
  all_questions lines = each_of lines
