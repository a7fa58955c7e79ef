use Rattle.std.proofs.Common.{refl, sym}
use Rattle.session_core.proofs.Short.{short_reply}
use Rattle.session_core.proofs.Shorts.{answers_any}
use Rattle.session_core.specs.Rules.{reply_text}
use Rattle.session_core.proofs.session.Session.put_short_answer.Goals as goal

pub returns-clause-answers : goal.returns-clause-answers
returns-clause-answers c = record {
  text = reply_text c.in-Await.asked c.args.reply.now;
  answers = rw (c.put.ensures, c.put-2.ensures)
      (answers_any c.args.self.now _ c.in-Await.asked c.args.reply.now
      (reply_text c.in-Await.asked c.args.reply.now) _ c.in-Await.is refl
      (short_reply c.in-Await.asked c.args.reply.now _ refl c.holds_range.ensures.greatest)
      (sym c.in_ok-count.ensures.begins_none) refl);
  placed = c.in_ok-count.ensures.placed;
}
