-- The first bytes of the responses that count, as numbers: the formats are computed here alone.
use Rattle.std.proofs.Common.{◌≡◌, ℕ, List, refl, sym, ◌∙◌, ap}
use Rattle.client_core.specs.declared.job.Outcome.{Outcome}
use Rattle.client_core.specs.declared.job.Verb.{Verb}
use Rattle.client_core.specs.declared.job.Verb.TheVariants.{Disconnect, Reconnect, ReadState}
use Rattle.client_core.specs.Replies.{action_front, refused_front, state_front, action_bytes, refused_bytes, state_bytes, action_reply, state_reply, outcome_of_response}

action_is : action_bytes ≡ action_front
action_is = refl

refused_is : refused_bytes ≡ refused_front
refused_is = refl

state_is : state_bytes ≡ state_front
state_is = refl

-- the response to each request
disconnected : (payload : List ℕ) → action_reply action_bytes payload
    ≡ outcome_of_response Disconnect payload
unfolding outcome_of_response
disconnected payload = ap (λ (front : List ℕ). action_reply front payload) action_is

reconnected : (payload : List ℕ) → action_reply action_bytes payload
    ≡ outcome_of_response Reconnect payload
unfolding outcome_of_response
reconnected payload = ap (λ (front : List ℕ). action_reply front payload) action_is

state_read : (payload : List ℕ) → state_reply refused_bytes state_bytes payload
    ≡ outcome_of_response ReadState payload
unfolding outcome_of_response
state_read payload =
    ap (λ (front : List ℕ). state_reply front state_bytes payload) refused_is
    ∙ ap (λ (front : List ℕ). state_reply refused_front front payload) state_is

-- the outcome that a response to a request gives
pub outcome_disconnected : (verb : Verb) (payload : List ℕ) (outcome : Outcome) → verb ≡ Disconnect
    → outcome ≡ action_reply action_bytes payload → outcome ≡ outcome_of_response verb payload
outcome_disconnected verb payload outcome verb_is e = rw verb_is (e ∙ disconnected payload)

pub outcome_reconnected : (verb : Verb) (payload : List ℕ) (outcome : Outcome) → verb ≡ Reconnect
    → outcome ≡ action_reply action_bytes payload → outcome ≡ outcome_of_response verb payload
outcome_reconnected verb payload outcome verb_is e = rw verb_is (e ∙ reconnected payload)

pub outcome_state_read : (verb : Verb) (payload : List ℕ) (outcome : Outcome) → verb ≡ ReadState
    → outcome ≡ state_reply refused_bytes state_bytes payload
    → outcome ≡ outcome_of_response verb payload
outcome_state_read verb payload outcome verb_is e = rw verb_is (e ∙ state_read payload)
