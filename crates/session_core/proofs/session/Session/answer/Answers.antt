use Rattle.session_core.proofs.Short.{short_reply}
use Rattle.session_core.proofs.Tasks.{takes_any}
use Rattle.session_core.proofs.session.Session.answer.Goals as goal

pub returns-clause-ok : goal.returns-clause-ok
returns-clause-ok c =
    takes_any c.args.self.now c.turn_to.new.self c.in-Await.asked c.args.reply
    _ c.in_ok-text.field-0.outgoing c.in-Await.is
    c.in_ok-text.ensures.text c.in_ok-text.ensures.outgoing
    c.turn_to.ensures

pub invariant_of-turn_to : goal.invariant_of-turn_to
invariant_of-turn_to c = record {
  within_max = short_reply c.in-Await.asked c.args.reply c.in_ok-text.field-0.text
      c.in_ok-text.ensures.text c.holds_range.ensures.greatest;
}
