use Rattle.std.proofs.Common.{[], inl}
use Rattle.ledger_campaigns.proofs.DeskLemmas.{reported}
use Rattle.ledger_campaigns.proofs.asking.report_outcome.Goals as goal

pub returns-in-Ok-clause-stored : goal.returns-in-Ok-clause-stored
returns-in-Ok-clause-stored g c = reported g.B.Book.is_honest g.B.Book.is_marked g.B.Book.keeps _ _
    c.args.place c.args.outcome c.in-Ok.answer c.stored_result.result c.stored_result.ensures
    c.in-Ok.ensures.ok

pub returns-in-Ok-clause-asked_to_store : goal.returns-in-Ok-clause-asked_to_store
returns-in-Ok-clause-asked_to_store g c = inl (_, [], _, c.in-Ok.answer, c.in-Ok.ensures.ok.seen.1)

pub returns-in-Ok-clause-last_call : goal.returns-in-Ok-clause-last_call
returns-in-Ok-clause-last_call g c = inl (
  c.in-Ok.ensures.ok.seen.0,
  c.in-Ok.answer,
  c.in-Ok.ensures.ok.seen.1,
  c.stored_result.ensures,
  c.in-Ok.ensures.ok.own_calls,
)
