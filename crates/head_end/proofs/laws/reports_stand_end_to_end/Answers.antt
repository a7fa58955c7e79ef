use Rattle.head_end.proofs.LawLemmas.{reports_join, lines_join, is_the_report}
use Rattle.head_end.proofs.laws.reports_stand_end_to_end.Goals as goal

pub returns-clause-text : goal.returns-clause-text
returns-clause-text c = reports_join

pub returns-clause-lines : goal.returns-clause-lines
returns-clause-lines c = lines_join

pub returns-clause-unique : goal.returns-clause-unique
returns-clause-unique c = is_the_report
