-- The bytes of each request are those that xdlms_apdu writes for it.
use Rattle.std.proofs.Common.{◌≡◌, List, ℕ, refl, ap, ◌∙◌}
use Rattle.xdlms_apdu.specs.Requests.{request_text}
use Rattle.client_core.specs.declared.job.Verb.{Verb}
use Rattle.client_core.specs.declared.job.Verb.TheVariants.{Disconnect, Reconnect, ReadState}
use Rattle.client_core.specs.Texts.{frame_around, request_frame, request_of, request_payload}

payload_written : (verb : Verb) → request_payload verb ≡ request_text (request_of verb)
unfolding request_text
payload_written Disconnect = refl
payload_written Reconnect = refl
payload_written ReadState = refl

pub request_written : (verb : Verb) (text : List ℕ) → text ≡ request_frame verb
    → text ≡ frame_around (request_text (request_of verb))
unfolding request_frame
request_written verb text is = is ∙ ap frame_around (payload_written verb)
