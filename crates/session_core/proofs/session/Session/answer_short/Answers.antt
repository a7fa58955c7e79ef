use Rattle.std.proofs.Common.{refl, sym, ◌∙◌}
use Rattle.session_core.proofs.Short.{short_reply}
use Rattle.session_core.proofs.Shorts.{action_begins_none, action_frame, answers_any, set_begins_none, set_frame}
use Rattle.session_core.proofs.session.Session.answer_short.Goals as goal
use Rattle.session_core.proofs.session.Session.answer_short.Goals.{in-Set, in-Action}

pub returns-in-Get-clause-ok : goal.returns-in-Get-clause-ok
returns-in-Get-clause-ok c = rw c.put.ensures
    (answers_any c.args.self.now _ c.in-Await.asked c.args.reply.now
    c.in_ok-text-in-Get.text c.answer_get.new.outgoing c.in-Await.is
    c.in_ok-text-in-Get.ensures.text
    (short_reply c.in-Await.asked c.args.reply.now c.in_ok-text-in-Get.text
    c.in_ok-text-in-Get.ensures.text c.holds_range.ensures.greatest)
    c.in_ok-text-in-Get.ensures.outgoing refl)

pub returns-in-Get-clause-within_max : goal.returns-in-Get-clause-within_max
returns-in-Get-clause-within_max c =
    short_reply c.in-Await.asked c.args.reply.now c.in_ok-text-in-Get.text
    c.in_ok-text-in-Get.ensures.text c.holds_range.ensures.greatest

pub returns-in-Ok-clause-ok : goal.returns-in-Ok-clause-ok
returns-in-Ok-clause-ok c = elim c.match-asked.branch [
  | in-Set w ↦
      let is = set_frame c.in-Await.asked c.args.reply.now w.in-Set.id w.frame-framed.result
      c.in-Ok.text _ w.in-Set.is (sym w.framed-is ∙ c.in-Ok.is) w.frame-framed.ensures.text
      w.set_answer.ensures in
      rw (c.put-in-Ok.ensures, c.put-in-Ok-2.ensures)
      (answers_any c.args.self.now _ c.in-Await.asked c.args.reply.now c.in-Ok.text _ c.in-Await.is
      is (short_reply c.in-Await.asked c.args.reply.now _ is c.holds_range.ensures.greatest)
      (set_begins_none c.in-Await.asked c.args.reply.now w.in-Set.id w.in-Set.is) refl)
  | in-Action w ↦
      let is = action_frame c.in-Await.asked c.args.reply.now w.in-Action.id
      w.frame-framed-in-Action.result c.in-Ok.text _ w.in-Action.is
      (sym w.framed-is ∙ c.in-Ok.is) w.frame-framed-in-Action.ensures.text
      w.action_answer.ensures in
      rw (c.put-in-Ok.ensures, c.put-in-Ok-2.ensures)
      (answers_any c.args.self.now _ c.in-Await.asked c.args.reply.now c.in-Ok.text _ c.in-Await.is
      is (short_reply c.in-Await.asked c.args.reply.now _ is c.holds_range.ensures.greatest)
      (action_begins_none c.in-Await.asked c.args.reply.now w.in-Action.id w.in-Action.is) refl)
]

pub returns-in-Ok-clause-within_max : goal.returns-in-Ok-clause-within_max
returns-in-Ok-clause-within_max c = elim c.match-asked.branch [
  | in-Set w ↦
      short_reply c.in-Await.asked c.args.reply.now c.in-Ok.text
      (set_frame c.in-Await.asked c.args.reply.now w.in-Set.id w.frame-framed.result
      c.in-Ok.text _ w.in-Set.is (sym w.framed-is ∙ c.in-Ok.is) w.frame-framed.ensures.text
      w.set_answer.ensures)
      c.holds_range.ensures.greatest
  | in-Action w ↦
      short_reply c.in-Await.asked c.args.reply.now c.in-Ok.text
      (action_frame c.in-Await.asked c.args.reply.now w.in-Action.id
      w.frame-framed-in-Action.result c.in-Ok.text _ w.in-Action.is
      (sym w.framed-is ∙ c.in-Ok.is) w.frame-framed-in-Action.ensures.text
      w.action_answer.ensures)
      c.holds_range.ensures.greatest
]
