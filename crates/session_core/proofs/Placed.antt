-- An answer without a value, whose result code is written into its bytes later.
use Rattle.std.proofs.Common.{◌≡◌, ◌<◌, true, None, length, set, refl, ap, lit≤}
use Rattle.cosem_names.specs.ResultCode.{code_of}
use Rattle.cosem_names.specs.declared.result_code.ResultCode.{ResultCode}
use Rattle.relay_events.specs.declared.reply.Reply.{Reply}
use Rattle.relay_events.specs.declared.reply.Reply.TheVariants.{Value, Values, Code, Sampled, SampledBoth, Ran, Stale}
use Rattle.session_core.specs.Answers.{answer_text}
use Rattle.session_core.specs.Outgoing.{is_valueless, long_answer, reply_code, code_response, code_place, response_by, reply_response}
use Rattle.session_core.specs.declared.answer.Answer.TheVariants.{Service}
use Rattle.session_core.specs.declared.asked.Asked.{Asked}
use Rattle.session_core.specs.declared.asked.ReplyForm.{ReplyForm}
use Rattle.session_core.specs.declared.asked.ReplyForm.TheVariants as form
use Rattle.xdlms_apdu.specs.Responses.{response_text}

-- the index of the result code is within the bytes
pub within : (f : ReplyForm) (was : ResultCode)
    → code_place f < length (answer_text (Service (code_response f was)))
unfolding answer_text response_text
within (form.Get id) was = lit≤ tt
within (form.GetList id) was = lit≤ tt
within (form.Set id) was = lit≤ tt
within (form.SetLastBlock id number) was = lit≤ tt
within (form.Action id) was = lit≤ tt

-- the bytes with another result code
pub placed : (f : ReplyForm) (was code : ResultCode)
    → set (answer_text (Service (code_response f was))) (code_place f) (code_of code)
    ≡ answer_text (Service (code_response f code))
unfolding answer_text response_text
placed (form.Get id) was code = refl
placed (form.GetList id) was code = refl
placed (form.Set id) was code = refl
placed (form.SetLastBlock id number) was code = refl
placed (form.Action id) was code = refl

-- the answer to a reply without a value has only a result code
not_long : (f : ReplyForm) (reply : Reply) → is_valueless reply ≡ true → long_answer f reply ≡ None
not_long (form.Get id) (Code code) e = refl
not_long (form.Get id) (Value value) e = absurd cc
not_long (form.Get id) (Values results) e = absurd cc
not_long (form.Get id) (Sampled over under) e = refl
not_long (form.Get id) (SampledBoth over under export_over export_under) e = refl
not_long (form.Get id) (Ran count) e = refl
not_long (form.Get id) (Stale last) e = refl
not_long (form.GetList id) (Code code) e = refl
not_long (form.GetList id) (Value value) e = absurd cc
not_long (form.GetList id) (Values results) e = absurd cc
not_long (form.GetList id) (Sampled over under) e = refl
not_long (form.GetList id) (SampledBoth over under export_over export_under) e = refl
not_long (form.GetList id) (Ran count) e = refl
not_long (form.GetList id) (Stale last) e = refl
not_long (form.Set id) reply e = refl
not_long (form.SetLastBlock id number) reply e = refl
not_long (form.Action id) reply e = refl

pub valueless : (asked : Asked) (reply : Reply) → is_valueless reply ≡ true
    → reply_response asked reply ≡ code_response asked.form (reply_code reply)
unfolding reply_response
valueless asked reply e = ap (response_by asked reply) (not_long asked.form reply e)
