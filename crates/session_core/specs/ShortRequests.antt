-- Requests that are read and asked without memory (IEC 62056-5-3, GET, SET and ACTION).
--     IsShortGet .. IsShortAction     the three requests
--     IsShortText                     one of them, whose service was negotiated
--     HasShort                        a session whose first frame has one, from its client
use Rattle.std.specs.Prelude.{◌≡◌, ◌⊎◌, ℕ, true, Some, List, length, slice_index_or}
use Rattle.session_core.specs.Calls.{is_negotiated}
use Rattle.session_core.specs.Standard.{get_tag, set_tag, action_tag, management_device}
use Rattle.session_core.specs.declared.link.Link.{Link}
use Rattle.session_core.specs.declared.session.Session.{Session}
use Rattle.session_core.specs.declared.task.SessionTask.TheVariants.{Listen}
use Rattle.wrapper_frame.specs.Header.{head_of, src_of, dst_of}
use Rattle.wrapper_frame.specs.Messages.{first_frame}
use Rattle.wrapper_frame.specs.declared.header.Head.TheVariants.{Whole}

-- the byte at a place of a payload
abbrev pub byte_at : List ℕ → ℕ → ℕ
byte_at payload place = slice_index_or payload place 0

-- The second byte of each is its form, normal. The ten after it are its invoke-id-and-priority (1),
-- and the class (2), the instance (6) and the attribute or method (1) that it is for.

-- whether the payload is a GET of one attribute without access selection (00)
abbrev pub IsShortGet : List ℕ → Type 0
IsShortGet payload = (length payload ≡ 13) × (byte_at payload 0 ≡ get_tag)
    × (byte_at payload 1 ≡ 0x01) × (byte_at payload 12 ≡ 0x00)

-- whether the payload is a SET of one attribute without access selection (00) to an enum (16)
abbrev pub IsShortSet : List ℕ → Type 0
IsShortSet payload = (length payload ≡ 15) × (byte_at payload 0 ≡ set_tag)
    × (byte_at payload 1 ≡ 0x01) × (byte_at payload 12 ≡ 0x00) × (byte_at payload 13 ≡ 0x16)

-- whether the payload is an ACTION with a parameter (01) that is an integer (0F)
abbrev pub IsShortAction : List ℕ → Type 0
IsShortAction payload = (length payload ≡ 15) × (byte_at payload 0 ≡ action_tag)
    × (byte_at payload 1 ≡ 0x01) × (byte_at payload 12 ≡ 0x01) × (byte_at payload 13 ≡ 0x0F)

-- whether the payload is one of them, and its service was negotiated
abbrev pub IsShortText : ℕ → List ℕ → Type 0
IsShortText conformance payload =
    (IsShortGet payload × (is_negotiated conformance get_tag 1 ≡ true))
    ⊎ ((IsShortSet payload × (is_negotiated conformance set_tag 1 ≡ true))
    ⊎ (IsShortAction payload × (is_negotiated conformance action_tag 1 ≡ true)))

-- whether the first frame of a session, which has nothing to send before, is such a request from
-- the client of its association
pub record HasShort (s : Session) : Type 0 where
  pub listens : s.task ≡ Listen
  pub link : Link
  pub associated : s.state.link ≡ Some link
  pub size : ℕ
  pub whole : head_of s.deframer ≡ Whole size
  pub to_server : dst_of s.deframer ≡ management_device
  pub from_client : src_of s.deframer ≡ link.source
  pub short : IsShortText link.conformance.0 (first_frame size s.deframer).payload
