use Rattle.std.proofs.Common.{◌≡◌, ℕ, true, false, List, refl, sym, ap, subst, ◌∙◌}
use Rattle.relay_events.specs.declared.event.Event.{Event}
use Rattle.relay_recorder.specs.Histories.{Continues}
use Rattle.session_core.specs.Calls.{short_event}
use Rattle.session_core.specs.Progress as session
use Rattle.session_core.specs.ShortAnswers.{is_short_reply}
use Rattle.session_core.specs.declared.session.Session.{Session}
use Rattle.embedded_meter.specs.Dialogues.{Dialogue}
use Rattle.embedded_meter.specs.Working.{PlacesFrame}
use Rattle.embedded_meter.specs.declared.given.Given.TheVariants as given
use Rattle.embedded_meter.proofs.ShortWay.{asked_short, replied_short, framed_short, placed_short}
use Rattle.embedded_meter.proofs.ShortWay.{same_event}
use Rattle.embedded_meter.proofs.connection.ClientSession.give_short.Goals as goal

pub returns-in-Err-clause-gives : goal.returns-in-Err-clause-gives
returns-in-Err-clause-gives c = (
  rw c.put_asked.ensures (asked_short c.args.self.now c.self.inside.session
      c.next_short.new.self c.self.inside.pending
      (short_event c.in-Some.level c.in-Some.request) c.args.recorder.now c.apply.new.self
      c.self.view_is c.requires c.in-Some.ensures.asks c.in-Err.ensures.err),
  refl,
)

pub returns-in-Some-put_short_answer-clause-gives :
    goal.returns-in-Some-put_short_answer-clause-gives
returns-in-Some-put_short_answer-clause-gives c =
    let puts = c.in-Some-put_short_answer.ensures.answers in
    let places : PlacesFrame puts.text c.args.buffer.now
    (given.Frame c.in-Some-put_short_answer.count) c.self.inside.pending
    c.put_short_answer.new.buffer = (
      ap (λ (d : Dialogue). d.pending) c.self.view_is ∙ c.requires,
      puts.placed.counted,
      puts.placed.written,
    ) in
    placed_short c.args.self.now c.put_short_answer.new.self c.self.inside.pending puts.text
    c.args.recorder.now c.apply.new.self c.args.buffer.now c.put_short_answer.new.buffer
    (given.Frame c.in-Some-put_short_answer.count)
    (framed_short c.args.self.now c.self.inside.session c.next_short.new.self
    c.put_short_answer.new.self c.self.inside.pending
    (short_event c.in-Some.level c.in-Some.request) c.in-Ok.reply puts.text
    c.args.recorder.now c.apply.new.self c.self.view_is c.requires c.in-Some.ensures.asks
    (rw c.event.ensures at c.in-Ok.ensures.history) c.apply.ensures.capacity puts.answers)
    places

pub returns-in-Ok-answer_short-clause-gives : goal.returns-in-Ok-answer_short-clause-gives
returns-in-Ok-answer_short-clause-gives c =
    let same = c.in-None.ensures.none in
    let answers : session.AnswersBy c.next_short.new.self c.in-Ok.reply
    c.in-Ok-answer_short.frame c.answer_short.new.self =
    subst (λ (s : Session). session.AnswersBy s c.in-Ok.reply c.in-Ok-answer_short.frame
    c.answer_short.new.self) same.0 c.in-Ok-answer_short.ensures.ok in
    placed_short c.args.self.now c.answer_short.new.self _ c.in-Ok-answer_short.frame
    c.args.recorder.now c.apply.new.self _ _ _
    (framed_short c.args.self.now c.self.inside.session c.next_short.new.self
    c.answer_short.new.self c.self.inside.pending
    (short_event c.in-Some.level c.in-Some.request) c.in-Ok.reply c.in-Ok-answer_short.frame
    c.args.recorder.now c.apply.new.self c.self.view_is c.requires c.in-Some.ensures.asks
    (rw c.event.ensures at c.in-Ok.ensures.history) c.apply.ensures.capacity answers)
    (subst (λ (b : List ℕ). PlacesFrame c.in-Ok-answer_short.frame b c.give_frame.result
    c.give_frame.new.pending c.give_frame.new.buffer) same.1 c.give_frame.ensures.gives)

pub returns-in-Err-answer_short-clause-gives : goal.returns-in-Err-answer_short-clause-gives
returns-in-Err-answer_short-clause-gives c =
    let same = c.in-None.ensures.none in (
      rw (c.put_answered.ensures, c.in-Err-answer_short.ensures.err, same.0)
          (replied_short c.args.self.now c.self.inside.session c.next_short.new.self
          c.self.inside.pending (short_event c.in-Some.level c.in-Some.request) c.in-Ok.reply
          c.args.recorder.now c.apply.new.self c.self.view_is c.requires
          c.in-Some.ensures.asks (rw c.event.ensures at c.in-Ok.ensures.history)
          c.apply.ensures.capacity),
      same.1,
    )

-- the meter can't have been out of memory for the event
pub returns-in-Err-clause-sure : goal.returns-in-Err-clause-sure
returns-in-Err-clause-sure c = λ needs.
    let same = same_event c.args.self.now c.self.inside.session c.next_short.new.self
    c.self.inside.pending (short_event c.in-Some.level c.in-Some.request) needs.event
    needs.others c.self.view_is c.requires needs.asked c.in-Some.ensures.asks in
    let wrong : false ≡ true = c.in-Err.ensures.sure (rw (c.event.ensures, same) needs.sure) in
    absurd cc

-- the answer was written without memory
pub returns-in-Err-answer_short-clause-sure : goal.returns-in-Err-answer_short-clause-sure
returns-in-Err-answer_short-clause-sure c = λ needs.
    let same = same_event c.args.self.now c.self.inside.session c.next_short.new.self
    c.self.inside.pending (short_event c.in-Some.level c.in-Some.request) needs.event
    needs.others c.self.view_is c.requires needs.asked c.in-Some.ensures.asks in
    let continues : Continues c.args.recorder.now c.apply.new.self needs.event c.in-Ok.reply =
    subst (λ (e : Event). Continues c.args.recorder.now c.apply.new.self e c.in-Ok.reply) same
    (rw c.event.ensures at c.in-Ok.ensures.history) in
    let is : is_short_reply (short_event c.in-Some.level c.in-Some.request) c.in-Ok.reply ≡ true =
    subst (λ (e : Event). is_short_reply e c.in-Ok.reply ≡ true) (sym same)
    (needs.replied c.in-Ok.reply c.apply.new.self continues) in
    absurd (c.in-None.ensures.fits.1
    (c.in-Some.ensures.answers c.in-Ok.reply is c.args.buffer.now needs.room) refl)
