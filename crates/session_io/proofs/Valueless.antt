-- The replies to events that do more than read.
use Rattle.std.proofs.Common.{◌≡◌, ℕ, List, true, false, refl, ap, sym, ◌∙◌}
use Rattle.cosem_axdr.specs.declared.value.Data.{Data}
use Rattle.cosem_names.specs.declared.service.GetResult.{GetResult}
use Rattle.relay_events.specs.Kinds.{Fits, is_read}
use Rattle.relay_events.specs.declared.event.Event.{Event}
use Rattle.relay_events.specs.declared.event.Event.TheVariants.{Get, GetList}
use Rattle.relay_events.specs.declared.reply.Reply.{Reply}
use Rattle.relay_events.specs.declared.reply.Reply.TheVariants.{Value, Values}
use Rattle.session_core.specs.Answers.{answer_text}
use Rattle.session_core.specs.Outgoing.{is_valueless, reply_code, code_response, form_of, reply_response}
use Rattle.session_core.specs.declared.answer.Answer.TheVariants.{Service}
use Rattle.session_core.specs.declared.asked.Asked.{Asked}
use Rattle.session_core.specs.declared.asked.ReplyForm.{ReplyForm}
use Rattle.session_core.proofs.Placed.{valueless}

-- an event that has a value as its reply only reads
value_is_read : (event : Event) (value : Data) → Fits event (Value value) → is_read event ≡ true
value_is_read (Get level attr selected) value fits = refl
value_is_read _ value fits = absurd fits

values_are_read : (event : Event) (results : List GetResult) → Fits event (Values results)
    → is_read event ≡ true
values_are_read (GetList level items) results fits = refl
values_are_read _ results fits = absurd fits

-- the reply to an event that does more has no value
valueless_reply : (event : Event) (reply : Reply) → is_read event ≡ false → Fits event reply
    → is_valueless reply ≡ true
valueless_reply event (Value value) e fits =
    let read = value_is_read event value fits in
    absurd cc
valueless_reply event (Values results) e fits =
    let read = values_are_read event results fits in
    absurd cc
valueless_reply event _ e fits = refl

-- so its answer has only a result code
pub prepared_text : (event : Event) (asked : Asked) (reply : Reply) → is_read event ≡ false
    → Fits event reply
    → answer_text (Service (reply_response asked reply))
    ≡ answer_text (Service (code_response (form_of asked) (reply_code reply)))
prepared_text event asked reply e fits = ap (λ r. answer_text (Service r))
    (valueless asked reply (valueless_reply event reply e fits))

-- so the answer that was prepared for that form and completed by the reply is the answer
pub prepared_answer : (event : Event) (asked : Asked) (reply given : Reply) (form : ReplyForm)
    (text : List ℕ) → is_read event ≡ false → Fits event given
    → form ≡ form_of asked → given ≡ reply → text
    ≡ answer_text (Service (code_response form (reply_code given)))
    → text ≡ answer_text (Service (reply_response asked reply))
prepared_answer event asked reply given form text e fits formed gave same =
    same ∙ rw formed (rw (sym gave) (sym (prepared_text event asked given e fits)))
