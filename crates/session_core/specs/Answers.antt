-- The bytes of answers.
use Rattle.std.specs.Prelude.{ℕ, ◌≤◌, ⊤, List, length}
use Rattle.acse_ber.specs.Text.{aare_text, release_response}
use Rattle.session_core.specs.Standard.{management_device, greatest_raw}
use Rattle.session_core.specs.declared.answer.Answer.{Answer}
use Rattle.session_core.specs.declared.answer.Answer.TheVariants.{Association, Release, Service}
use Rattle.session_core.specs.declared.answer.Way.{Way}
use Rattle.session_core.specs.declared.answer.Way.TheVariants as way
use Rattle.cosem_names.specs.declared.service.GetResult.TheVariants.{Value}
use Rattle.wrapper_frame.specs.Header.{header_size}
use Rattle.wrapper_frame.specs.Text.{frame_text}
use Rattle.xdlms_apdu.specs.Responses.{response_text}
use Rattle.xdlms_apdu.specs.declared.response.Response.{Response}
use Rattle.xdlms_apdu.specs.declared.response.Response.TheVariants as response

-- the bytes of an answer, without the wrapper's header (IEC 62056-5-3, AARE, RLRE and the responses
-- of GET, SET and ACTION)
unfoldable pub answer_text : Answer → List ℕ
answer_text (Association aare) = aare_text aare
answer_text Release = release_response
answer_text (Service response) = response_text response

-- the frame that carries a payload to a port (IEC 62056-4-7)
unfoldable pub due_text : ℕ → List ℕ → List ℕ
due_text to payload = frame_text (record { src = management_device; dst = to; payload = payload })

-- an answer as it is sent: in a frame to a port, or without one
abbrev pub way_text : Way → ℕ → List ℕ → List ℕ
way_text way.Framed to payload = due_text to payload
way_text way.Bare to payload = payload

-- the number of bytes before the payload
abbrev pub way_size : Way → ℕ
way_size way.Framed = header_size
way_size way.Bare = 0

-- whether a response has no values, or a block that fits in a PDU
abbrev pub IsSmall : Response → Type 0
IsSmall (response.Get id (Value value)) = ⊥
IsSmall (response.GetList id results) = ⊥
IsSmall (response.GetBlock id block) = length block.raw ≤ greatest_raw
IsSmall _ = ⊤
