use Rattle.std.specs.contracts.alloc.AllocError.{the_row}
use Rattle.std.proofs.Common.{ℕ, sym, ◌∙◌}
use Rattle.session_core.proofs.Short.{short_framed}
use Rattle.session_core.specs.Answers.{answer_text}
use Rattle.session_core.proofs.Tasks.{reads_any, awaits_any, says_any, gives_any, over_any}
use Rattle.session_core.proofs.session.Session.work.Goals as goal

pub returns-in_ok-step-in-Read-clause-works : goal.returns-in_ok-step-in-Read-clause-works
returns-in_ok-step-in-Read-clause-works c =
    reads_any the_row.Denot c.args.self.now c.take.new.self c.in-Read.joined
    c.in_ok-step-in-Read.step c.take.result c.in-Read.is c.in_ok-step-in-Read.ensures.outcome
    c.in_ok-step-in-Read.ensures.settled c.take.ensures.next c.take.ensures.new_state

pub returns-in-Await-clause-works : goal.returns-in-Await-clause-works
returns-in-Await-clause-works c = awaits_any ℕ c.args.self.now c.in-Await.field-0 c.in-Await.is

pub returns-in_ok-text-in-Say-clause-works : goal.returns-in_ok-text-in-Say-clause-works
returns-in_ok-text-in-Say-clause-works c = says_any ℕ c.args.self.now c.turn_to.new.self
    c.in-Say.due c.in_ok-text-in-Say.text c.in-Say.is c.in_ok-text-in-Say.ensures c.turn_to.ensures

pub returns-in-Send-replace-clause-works : goal.returns-in-Send-replace-clause-works
returns-in-Send-replace-clause-works c = gives_any ℕ c.args.self.now c.in-Send-replace.framed
    c.replace.new.dest (sym c.replace.ensures.value ∙ c.in-Send-replace.is) c.replace.ensures.after

pub returns-in-Over-clause-works : goal.returns-in-Over-clause-works
returns-in-Over-clause-works c = over_any ℕ c.args.self.now c.in-Over.end c.in-Over.is

pub returns-in_ok-text-in-Say-clause-within_max : goal.returns-in_ok-text-in-Say-clause-within_max
returns-in_ok-text-in-Say-clause-within_max c =
    short_framed c.in-Say.due.to (answer_text c.in-Say.due.answer) c.in_ok-text-in-Say.text
    c.in_ok-text-in-Say.ensures c.in-Say.due.short
