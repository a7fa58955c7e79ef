use Rattle.std.proofs.Common.{refl}
use Rattle.ledger_campaigns.proofs.QuestionLemmas.{all_questions}
use Rattle.ledger_campaigns.proofs.laws.questions_switch_nothing.Goals as goal

pub returns-clause-verbs : goal.returns-clause-verbs
returns-clause-verbs c lines = all_questions _ (λ job. refl) lines

pub returns-clause-attempts : goal.returns-clause-attempts
returns-clause-attempts c lines stage = all_questions _ (λ job switched. switched.0) lines
