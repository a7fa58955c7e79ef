use Rattle.std.proofs.Common.{inl}
use Rattle.ledger_campaigns.proofs.DeskLemmas.{asked, asked_place, failed_by, refused_by}
use Rattle.ledger_campaigns.proofs.asking.ask_to_send.Goals as goal

pub returns-in-Ok-clause-permit : goal.returns-in-Ok-clause-permit
returns-in-Ok-clause-permit g c = asked_place g.B.Book.is_honest g.B.Book.is_marked g.B.Book.keeps _
    _ c.args.place c.in-Ok.answer c.permit_in.result c.permit_in.ensures c.in-Ok.ensures.ok

pub returns-in-Ok-clause-given : goal.returns-in-Ok-clause-given
returns-in-Ok-clause-given g c = asked g.B.Book.is_honest g.B.Book.is_marked g.B.Book.keeps _ _
    c.args.place c.in-Ok.answer c.permit_in.result c.permit_in.ensures c.in-Ok.ensures.ok

pub returns-in-Ok-clause-refused : goal.returns-in-Ok-clause-refused
returns-in-Ok-clause-refused g c =
    rw c.permit_in.ensures
    (refused_by c.args.place c.call.new.self _ _ c.in-Ok.answer c.in-Ok.ensures.ok.seen.1)

pub returns-in-Ok-clause-failed : goal.returns-in-Ok-clause-failed
returns-in-Ok-clause-failed g c =
    rw c.permit_in.ensures
    (failed_by c.args.place c.call.new.self _ _ c.in-Ok.answer c.in-Ok.ensures.ok.seen.1)

pub returns-in-Ok-clause-last_call : goal.returns-in-Ok-clause-last_call
returns-in-Ok-clause-last_call g c = inl (
  c.in-Ok.ensures.ok.seen.0,
  c.in-Ok.answer,
  c.in-Ok.ensures.ok.seen.1,
  c.permit_in.ensures,
  c.in-Ok.ensures.ok.own_calls,
)
