-- Answers fit in a PDU, and their frames in a frame.
use Rattle.std.proofs.Common.{◌≡◌, ◌≤◌, ◌+◌, ◌-◌, ◌^◌, ℕ, suc, Bool, true, false, cond, nat_lt, Option, Some, None, List, [], ◌∷◌, length, drop, refl, ap, ◌∙◌, arith, lit≤, length-append}
use Rattle.std.specs.Prelude.{◌*◌, min, if◌then◌else◌}
use Rattle.std.specs.Int.{bytes_high_first}
use Rattle.std.proofs.lemmas.Bool.{le-leb, leb-true}
use Rattle.std.proofs.lemmas.List.{length-take}
use Rattle.acse_ber.specs.Text.{aare_text}
use Rattle.acse_ber.specs.declared.aare.Aare.{Aare}
use Rattle.acse_ber.specs.declared.aare.Info.{Info}
use Rattle.acse_ber.specs.declared.aare.Info.TheVariants as info
use Rattle.cosem_axdr.specs.Spelling.{length_text}
use Rattle.cosem_names.specs.declared.service.GetResult.TheVariants.{Value, Code}
use Rattle.relay_events.specs.declared.reply.Reply.{Reply}
use Rattle.session_core.specs.Answers.{answer_text, due_text, IsSmall}
use Rattle.session_core.specs.Outgoing.{LongAnswer, block_response, can_go_in_blocks, code_response, has_room, long_answer, long_response, reply_code, reply_response, response_by, unsent_transfer}
use Rattle.session_core.specs.Rules.{reply_text}
use Rattle.session_core.specs.Standard.{block_header, greatest_frame, greatest_pdu, greatest_raw, management_device}
use Rattle.session_core.specs.declared.answer.Answer.TheVariants.{Association, Release, Service}
use Rattle.session_core.specs.declared.asked.Asked.{Asked}
use Rattle.session_core.specs.declared.asked.ReplyForm.{ReplyForm}
use Rattle.session_core.specs.declared.asked.ReplyForm.TheVariants as form
use Rattle.session_core.specs.declared.link.Link.{Link}
use Rattle.cosem_names.specs.declared.result_code.ResultCode.{ResultCode}
use Rattle.cosem_names.specs.declared.result_code.ResultCode.TheVariants.{OtherReason}
use Rattle.wrapper_frame.specs.Header.{header_size}
use Rattle.wrapper_frame.specs.Text.{frame_text, header_text}
use Rattle.xdlms_blocks.specs.Sending.{next_piece}
use Rattle.xdlms_apdu.specs.declared.invoke_id.InvokeId.{InvokeId}
use Rattle.xdlms_apdu.specs.Responses.{response_text}
use Rattle.xdlms_apdu.specs.declared.response.Exception.TheVariants.{NotAllowed, Unknown}
use Rattle.xdlms_apdu.specs.declared.response.Exception.TheVariants.{Unreadable}
use Rattle.xdlms_apdu.specs.declared.response.Response.{Response}
use Rattle.xdlms_apdu.specs.declared.response.Response.TheVariants as response

-- the list that three tests choose is short, if the last test is true
few_if : (a b c : Bool) (w x y z : List ℕ) → c ≡ true → length w ≤ 3 → length x ≤ 3 → length y ≤ 3
    → length (cond a w (cond b x (cond c y z))) ≤ 3
few_if true b c w x y z e p q r = p
few_if false true c w x y z e p q r = q
few_if false false true w x y z e p q r = r
few_if false false false w x y z e p q r = cc

-- the length of a block is encoded in at most three bytes
length_few : (n : ℕ) → n ≤ greatest_raw → length (length_text n) ≤ 3
length_few n h =
    few_if (nat_lt n 0x80) (nat_lt n (2 ^ 8)) (nat_lt n (2 ^ 16)) (n ∷ []) (0x81
    ∷ bytes_high_first 1 n) (0x82 ∷ bytes_high_first 2 n) _
    (le-leb (suc n) (2 ^ 16) (omega arith)) (lit≤ tt) (lit≤ tt) (lit≤ tt)

short_aare : (result diagnostic : ℕ) (i : Info)
    → length (aare_text (record { result = result; diagnostic = diagnostic; info = i })) ≤
    greatest_pdu
unfolding aare_text
short_aare result diagnostic info.Absent = lit≤ tt
short_aare result diagnostic (info.Response bits limit) = lit≤ tt
short_aare result diagnostic (info.InitiateError e) = lit≤ tt

-- an AARE fits
pub short_association : (aare : Aare) → length (answer_text (Association aare)) ≤ greatest_pdu
unfolding answer_text
short_association aare = short_aare aare.result aare.diagnostic aare.info

-- an RLRE fits
pub short_release : length (answer_text Release) ≤ greatest_pdu
unfolding answer_text
short_release = lit≤ tt

-- a response without values, or with a block, fits
short : (r : Response) → IsSmall r → length (response_text r) ≤ greatest_pdu
unfolding response_text
short (response.Get id (Value value)) small = absurd small
short (response.Get id (Code code)) small = lit≤ tt
short (response.GetBlock id block) small =
    let few = length_few (length block.raw) small in
    omega (arith, length-append (length_text (length block.raw)) block.raw)
short (response.GetBlockRefused id last number code) small = lit≤ tt
short (response.GetList id results) small = absurd small
short (response.Set id code) small = lit≤ tt
short (response.SetBlock id number) small = lit≤ tt
short (response.SetLastBlock id code number) small = lit≤ tt
short (response.Action id code) small = lit≤ tt
short (response.ActionBlock id number) small = lit≤ tt
short (response.Exception NotAllowed) small = lit≤ tt
short (response.Exception Unknown) small = lit≤ tt
short (response.Exception Unreadable) small = lit≤ tt

pub short_response : (r : Response) → IsSmall r → length (answer_text (Service r)) ≤ greatest_pdu
unfolding answer_text
short_response r small = short r small

-- ---- the answer to a reply

-- a response that has only a result code has no values
small_code : (f : ReplyForm) (code : ResultCode) → IsSmall (code_response f code)
small_code (form.Get id) code = tt
small_code (form.GetList id) code = tt
small_code (form.Set id) code = tt
small_code (form.SetLastBlock id number) code = tt
small_code (form.Action id) code = tt

-- the first block of a text fits, if the client's PDU size is within the limit
small_block : (link : Link) (id : InvokeId) (raw : List ℕ) → link.limit ≤ greatest_pdu
    → IsSmall (block_response id (next_piece (unsent_transfer link.limit raw)))
small_block link id raw limit =
    let cut : length (next_piece (unsent_transfer link.limit raw)).raw
    ≡ min (link.limit - block_header) (length (drop (0 * (link.limit - block_header)) raw)) =
    length-take _ _ in
    omega (arith, limit, cut)

-- the answer with values fits, whether it is whole, in blocks or refused
short_long : (link : Link) (answer : LongAnswer) → link.limit ≤ greatest_pdu
    → length (response_text (long_response link answer)) ≤ greatest_pdu
short_long link answer limit =
    by_room (has_room link answer.normal) (can_go_in_blocks link answer.raw) refl
  where
    by_room : (whole in_blocks : Bool) → has_room link answer.normal ≡ whole
        → length (response_text (if whole then answer.normal
        else if in_blocks
        then block_response answer.id (next_piece (unsent_transfer link.limit answer.raw))
        else response.Get answer.id (Code OtherReason))) ≤ greatest_pdu
    by_room true in_blocks room =
        let fits = leb-true (length (response_text answer.normal)) link.limit room in
        omega (arith, fits, limit)
    by_room false true room = short _ (small_block link answer.id answer.raw limit)
    by_room false false room = short (response.Get answer.id (Code OtherReason)) tt

short_by : (asked : Asked) (reply : Reply) (answer : Option LongAnswer)
    → asked.link.limit ≤ greatest_pdu
    → length (response_text (response_by asked reply answer)) ≤ greatest_pdu
short_by asked reply (Some answer) limit = short_long asked.link answer limit
short_by asked reply None limit =
    short (code_response asked.form (reply_code reply)) (small_code asked.form (reply_code reply))

-- ---- frames

-- the length of the frame with a payload
pub framed_length : (to : ℕ) (payload : List ℕ)
    → length (due_text to payload) ≡ header_size + length payload
unfolding due_text frame_text
framed_length to payload =
    length-append (header_text management_device to (length payload)) payload

-- a frame with a PDU fits
pub short_framed : (to : ℕ) (payload text : List ℕ) → text ≡ due_text to payload
    → length payload ≤ greatest_pdu → length text ≤ greatest_frame
short_framed to payload text is short =
    let long : length text ≡ header_size + length payload = ap length is
    ∙ framed_length to payload in
    omega (arith, long, short)

-- the frame with the answer to a reply fits
pub short_reply : (asked : Asked) (reply : Reply) (text : List ℕ) → text ≡ reply_text asked reply
    → asked.link.limit ≤ greatest_pdu → length text ≤ greatest_frame
unfolding answer_text reply_response
short_reply asked reply text is limit =
    short_framed asked.link.source (answer_text (Service (reply_response asked reply))) text is
    (short_by asked reply (long_answer asked.form reply) limit)
