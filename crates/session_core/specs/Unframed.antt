-- Requests (IEC 62056-5-3, GET, SET and ACTION) without a frame and without an association, which
-- this meter also accepts. Any other payload is answered by an exception (IEC 62056-5-3,
-- ExceptionResponse).
use Rattle.std.specs.Prelude.{ℕ, Bool, false, ◌==◌, ◌&&◌, ◌||◌, if◌then◌else◌, None, List, [], ◌∷◌}
use Rattle.acse_ber.specs.Verdict.{offered_services}
use Rattle.cosem_names.specs.declared.level.Level.TheVariants.{Management}
use Rattle.session_core.specs.Answers.{answer_text}
use Rattle.session_core.specs.Association.{limit_of}
use Rattle.session_core.specs.Calls.{call_of}
use Rattle.session_core.specs.Outcome.{Outcome, asks, says}
use Rattle.session_core.specs.Rules.{exception_answer, call_turn, outcome_of_turn}
use Rattle.session_core.specs.Standard.{get_tag, set_tag, action_tag, greatest_pdu, management_client}
use Rattle.session_core.specs.declared.link.Link.{Link}
use Rattle.session_core.specs.declared.unframed.Unframed.{Unframed}
use Rattle.session_core.specs.declared.unframed.Unframed.TheVariants.{Ask, Say}
use Rattle.xdlms_apdu.specs.declared.response.Exception.TheVariants.{Unknown}

-- the association assumed for such a request: management, all services that the meter offers, and
-- PDUs of 1,024 bytes
abbrev pub unframed_link : Link
unframed_link = record {
  source = management_client;
  level = Management;
  conformance = record { 0 = offered_services };
  limit = limit_of greatest_pdu;
}

-- whether a payload is a service's tag alone, or a form of a service that needs no session
abbrev pub is_unframed : List ℕ → Bool
is_unframed [] = false
is_unframed (tag ∷ []) = tag == get_tag || tag == set_tag || tag == action_tag
is_unframed (tag ∷ form ∷ rest) =
    (tag == get_tag && (form == 1 || form == 3)) || (tag == set_tag && form == 1) ||
    (tag == action_tag && form == 1)

-- the outcome of such a request
unfoldable pub unframed_outcome : List ℕ → Outcome
unframed_outcome payload =
    if is_unframed payload
    then outcome_of_turn None (call_turn unframed_link None (call_of offered_services payload))
    else says management_client (exception_answer Unknown)

-- the value of the code that means this outcome
abbrev pub unframed_of : Outcome → Unframed
unframed_of (asks event asked) = Ask event asked
unframed_of (says to answer) = Say (answer_text answer)
