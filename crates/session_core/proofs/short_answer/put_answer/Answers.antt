use Rattle.std.proofs.Common.{sym, ◌∙◌, arith}
use Rattle.std.proofs.lemmas.Option.{none-some}
use Rattle.session_core.proofs.Shorts.{action_begins_none, action_payload, counted_short, fits_answer, if_placed, placed_answer, set_begins_none, set_payload, short_action, short_set, short_value, value_begins_none, value_payload}
use Rattle.session_core.proofs.short_answer.put_answer.Goals as goal

pub returns-in_ok-value_answer-in-Get-clause-placed :
    goal.returns-in_ok-value_answer-in-Get-clause-placed
returns-in_ok-value_answer-in-Get-clause-placed c =
    let answer = c.in_ok-value_answer-in-Get in
    placed_answer c.args.asked c.args.reply.now answer.field-0 _ _ _
    (value_payload c.args.asked c.args.reply.now c.in-Get.id c.in-Value.value answer.field-0
    c.in-Get.is c.in-Value.is answer.ensures.text
    (omega (arith, answer.ensures.size)) c.holds_range.ensures.least) c.put_frame.ensures.placed

pub returns-in_ok-value_answer-in-Get-clause-begins_none :
    goal.returns-in_ok-value_answer-in-Get-clause-begins_none
returns-in_ok-value_answer-in-Get-clause-begins_none c =
    let answer = c.in_ok-value_answer-in-Get in
    if_placed _ _
    (value_begins_none c.args.asked c.args.reply.now c.in-Get.id c.in-Value.value answer.field-0
    c.in-Get.is c.in-Value.is answer.ensures.text
    (omega (arith, answer.ensures.size)) c.holds_range.ensures.least)

pub returns-in_ok-value_answer-in-Get-clause-fits :
    goal.returns-in_ok-value_answer-in-Get-clause-fits
returns-in_ok-value_answer-in-Get-clause-fits c =
    let answer = c.in_ok-value_answer-in-Get in
    fits_answer c.args.asked c.args.reply.now answer.field-0 c.args.buffer.now _
    (value_payload c.args.asked c.args.reply.now c.in-Get.id c.in-Value.value answer.field-0
    c.in-Get.is c.in-Value.is answer.ensures.text
    (omega (arith, answer.ensures.size)) c.holds_range.ensures.least)
    (omega (arith, answer.ensures.size))
    (short_value c.args.asked c.args.reply.now c.in-Get.id c.in-Value.value c.in-Get.is
    c.in-Value.is (answer.ensures.which.0 (λ e. none-some _ (sym e)))) c.put_frame.ensures.fits

pub returns-in-Set-clause-placed : goal.returns-in-Set-clause-placed
returns-in-Set-clause-placed c =
    placed_answer c.args.asked c.args.reply.now c.set_answer.result _ _ _
    (c.set_answer.ensures ∙ set_payload c.args.asked c.args.reply.now c.in-Set.id c.in-Set.is)
    c.put_frame-in-Set.ensures.placed

pub returns-in-Set-clause-begins_none : goal.returns-in-Set-clause-begins_none
returns-in-Set-clause-begins_none c =
    if_placed _ _ (sym (set_begins_none c.args.asked c.args.reply.now c.in-Set.id c.in-Set.is))

pub returns-in-Action-clause-placed : goal.returns-in-Action-clause-placed
returns-in-Action-clause-placed c =
    placed_answer c.args.asked c.args.reply.now c.action_answer.result _ _ _
    (c.action_answer.ensures ∙ action_payload c.args.asked c.args.reply.now c.in-Action.id
    c.in-Action.is)
    c.put_frame-in-Action.ensures.placed

pub returns-in-Action-clause-begins_none : goal.returns-in-Action-clause-begins_none
returns-in-Action-clause-begins_none c =
    if_placed _ _
    (sym (action_begins_none c.args.asked c.args.reply.now c.in-Action.id c.in-Action.is))

pub returns-in-Set-clause-fits : goal.returns-in-Set-clause-fits
returns-in-Set-clause-fits c =
    fits_answer c.args.asked c.args.reply.now c.set_answer.result c.args.buffer.now _
    (c.set_answer.ensures ∙ set_payload c.args.asked c.args.reply.now c.in-Set.id c.in-Set.is)
    (omega arith) (short_set c.args.asked c.args.reply.now c.in-Set.id c.in-Set.is)
    c.put_frame-in-Set.ensures.fits

pub returns-in-Action-clause-fits : goal.returns-in-Action-clause-fits
returns-in-Action-clause-fits c =
    fits_answer c.args.asked c.args.reply.now c.action_answer.result c.args.buffer.now _
    (c.action_answer.ensures ∙ action_payload c.args.asked c.args.reply.now c.in-Action.id
    c.in-Action.is)
    (omega arith) (short_action c.args.asked c.args.reply.now c.in-Action.id c.in-Action.is)
    c.put_frame-in-Action.ensures.fits

pub returns-in_ok-value_answer-in-Get-clause-within_max :
    goal.returns-in_ok-value_answer-in-Get-clause-within_max
returns-in_ok-value_answer-in-Get-clause-within_max c =
    counted_short _ _ _ _ _ (omega (arith, c.in_ok-value_answer-in-Get.ensures.size))
    c.put_frame.ensures.placed

pub returns-in-Set-clause-within_max : goal.returns-in-Set-clause-within_max
returns-in-Set-clause-within_max c =
    counted_short _ c.set_answer.result _ _ _ (omega arith) c.put_frame-in-Set.ensures.placed

pub returns-in-Action-clause-within_max : goal.returns-in-Action-clause-within_max
returns-in-Action-clause-within_max c =
    counted_short _ c.action_answer.result _ _ _ (omega arith)
    c.put_frame-in-Action.ensures.placed
