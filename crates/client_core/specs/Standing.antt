-- The state of a client, and the effect of each call on it.
--     Stands            a client with this verb and password, the bytes fed, the number of messages
--                       returned, and whether the connection is over
--     GivesNextMessage             to_send: the next message to send, or none
--     Feeds             feed: the bytes follow those fed before, unless the connection is over
--     Ends              ended: the connection is over
--     Tells             outcome: the outcome, once it is settled or the connection is over
--     TellsRequest      is_request_due: the association is open, and the request not yet returned
use Rattle.std.specs.Prelude.{◌≡◌, ◌&&◌, ℕ, zero, suc, Bool, true, false, is_some, if◌then◌else◌, Option, Some, None, List, ◌++◌}
use Rattle.client_core.specs.declared.client.Client.{Client}
use Rattle.client_core.specs.declared.job.Verb.{Verb}
use Rattle.client_core.specs.declared.job.Outcome.{Outcome}
use Rattle.client_core.specs.Texts.{aarq_frame, request_frame, release_frame, text_at}
use Rattle.client_core.specs.Outcomes.{progress_of, outcome_after, outcome_of, due_frames}
use Rattle.client_core.specs.Steps.{progress_after_bytes}

-- whether these are the messages that are left after this number of them was returned
abbrev pub AreLeft : Verb → List ℕ → ℕ → Option (List ℕ) → Option (List ℕ) → Option (List ℕ)
    → Type 0
AreLeft verb password zero aarq request release =
    (aarq ≡ Some (aarq_frame password)) × (request ≡ Some (request_frame verb))
    × (release ≡ Some release_frame)
AreLeft verb password (suc zero) aarq request release = (aarq ≡ None)
    × (request ≡ Some (request_frame verb)) × (release ≡ Some release_frame)
AreLeft verb password (suc (suc zero)) aarq request release = (aarq ≡ None) × (request ≡ None)
    × (release ≡ Some release_frame)
AreLeft verb password (suc (suc (suc given))) aarq request release = (aarq ≡ None)
    × (request ≡ None) × (release ≡ None)

-- Whether a client has this verb and password, was fed these bytes, and has returned this number of
-- messages. `over`: whether its connection is over.
pub record Stands (verb : Verb) (password fed : List ℕ) (given : ℕ) (over : Bool) (c : Client)
    : Type 0 where
  pub verb_is : c.verb ≡ verb
  pub now : c.progress ≡ progress_of verb fed
  pub later : (more : List ℕ)
      → progress_of verb (fed ++ more) ≡ progress_after_bytes verb c.progress (c.deframer ++ more)
  pub left : AreLeft verb password given c.aarq c.request c.release
  pub over_is : c.is_ended ≡ over

-- whether a client returned the next message to send that was not returned yet, or none if each was
pub record GivesNextMessage (old : Client) (result : Option (List ℕ)) (new : Client) : Type 0 where
  pub text : (verb : Verb) (password fed : List ℕ) (given : ℕ) (over : Bool)
      → Stands verb password fed given over old
      → result ≡ text_at (due_frames verb password (progress_of verb fed)) given
  pub stands : (verb : Verb) (password fed : List ℕ) (given : ℕ) (over : Bool)
      → Stands verb password fed given over old
      → Stands verb password fed (if is_some result then suc given else given) over new

-- whether a client was fed bytes: they follow those fed before, unless the connection is over
pub record Feeds (old : Client) (bytes : List ℕ) (new : Client) : Type 0 where
  pub stands : (verb : Verb) (password fed : List ℕ) (given : ℕ) (over : Bool)
      → Stands verb password fed given over old
      → Stands verb password (if over then fed else fed ++ bytes) given over new

-- whether the connection of a client is now over, and nothing else has changed
pub record Ends (old new : Client) : Type 0 where
  pub stands : (verb : Verb) (password fed : List ℕ) (given : ℕ) (over : Bool)
      → Stands verb password fed given over old
      → Stands verb password fed given true new

-- Whether this is the outcome by the bytes fed. If the connection is over, it is that of all bytes;
-- otherwise it is the one that they settle, if any. A settled outcome remains, whatever bytes
-- follow.
pub record Tells (c : Client) (result : Option Outcome) : Type 0 where
  pub told : (verb : Verb) (password fed : List ℕ) (given : ℕ) (over : Bool)
      → Stands verb password fed given over c
      → result ≡ (if over then Some (outcome_of verb fed) else outcome_after verb fed)
  pub stays : (verb : Verb) (password fed : List ℕ) (given : ℕ) (over : Bool)
      → Stands verb password fed given over c
      → (outcome : Outcome) → outcome_after verb fed ≡ Some outcome → (more : List ℕ)
      → outcome_of verb (fed ++ more) ≡ outcome

-- whether the second message is the next one
abbrev pub is_second : ℕ → Bool
is_second zero = false
is_second (suc zero) = true
is_second (suc (suc n)) = false

-- whether the answer says that the next message is the request
pub record TellsRequest (c : Client) (result : Bool) : Type 0 where
  pub told : (verb : Verb) (password fed : List ℕ) (given : ℕ) (over : Bool)
      → Stands verb password fed given over c
      → result ≡ (is_second given && (progress_of verb fed).accepted)
