-- The calls of a conversation.
use Rattle.std.proofs.Common.{◌≡◌, ℕ, zero, suc, Bool, true, false, List, [], Option, Some, None, Result, Ok, Err, refl, sym, ◌∙◌, ap, subst, inl, inr}
use Rattle.std.specs.Prelude.{OnOk, OnErr, unwrap_or, not, ◌&&◌, ◌||◌}
use Rattle.client_core.specs.declared.client.Client.{Client}
use Rattle.client_core.specs.declared.job.Outcome.{Outcome}
use Rattle.client_core.specs.declared.job.Outcome.TheVariants.{Unknown}
use Rattle.client_core.specs.declared.job.Verb.{Verb}
use Rattle.client_core.specs.declared.progress.Progress.{Progress}
use Rattle.client_core.specs.Outcomes.{progress_of, due_frames, is_served}
use Rattle.client_core.specs.Standing.{Stands, GivesNextMessage, Feeds, Ends, Tells, TellsRequest, is_second}
use Rattle.client_core.specs.Texts.{text_at, aarq_frame, request_frame, release_frame}
use Rattle.campaign_board.specs.declared.talk.Talk.{Talk}
use Rattle.campaign_board.specs.Lives.{Life}
use Rattle.campaign_board.specs.Talks.{is_question, may_command, has_request, IsTalk, StartsTalk, GivesIn, GivesText, Receives, GivesUp, TellsDue}
use Rattle.campaign_board.proofs.Lists.{has_second, no_second}

-- a disjunction without its second part
or_false : (b : Bool) → (b || false) ≡ b
or_false true = refl
or_false false = refl

pub starts_talk : (verb : Verb) (password : List ℕ) (talk : Talk)
    → Stands verb password [] 0 false talk.client → talk.is_cleared ≡ is_question verb
    → talk.has_asked ≡ false → StartsTalk verb password talk
starts_talk verb password talk stands cleared asked = record {
  is_talk = λ life no_bytes no_texts no_mark. record {
    stands = rw (no_bytes, no_texts) stands;
    cleared = rw no_mark (cleared ∙ sym (or_false (is_question verb)));
    asked = rw no_texts asked;
  };
}

-- the request waits for its mark
pub gives_nothing : (talk : Talk) (due : Bool) → TellsRequest talk.client due → due ≡ true
    → talk.is_cleared ≡ false → GivesText talk None talk
gives_nothing talk due tells is_due uncleared = record {
  gives = λ verb password life is. (
    inr (
      sym (tells.told verb password life.fed life.given false is.stands) ∙ is_due,
      sym is.cleared ∙ uncleared,
    ),
    is,
  );
}

-- after a message was given, the request is among those given if it was, or is it
asked_more : (given : ℕ) (accepted asked : Bool) → asked ≡ has_request given
    → (given ≡ 1 → accepted ≡ true) → (asked || (is_second given && accepted)) ≡ has_request
    (suc given)
asked_more zero accepted asked is one = rw is refl
asked_more (suc zero) accepted asked is one = rw (is, one refl) refl
asked_more (suc (suc given)) accepted asked is one = rw is refl

-- if the request is given, the association is open
accepted_second : (verb : Verb) (password : List ℕ) (progress : Progress) (given : ℕ)
    (text : List ℕ) → Some text ≡ text_at (due_frames verb password progress) given
    → given ≡ 1 → progress.accepted ≡ true
accepted_second verb password progress given text is one =
    has_second progress.accepted (is_served progress.outcome) (aarq_frame password)
    (request_frame verb) release_frame text
    (subst (λ (n : ℕ). Some text ≡ text_at (due_frames verb password progress) n) one is)

-- if the request is not there, the association is not open
unaccepted_second : (verb : Verb) (password : List ℕ) (progress : Progress) (given : ℕ)
    → text_at (due_frames verb password progress) given ≡ None
    → given ≡ 1 → progress.accepted ≡ false
unaccepted_second verb password progress given is one =
    no_second progress.accepted (is_served progress.outcome) (aarq_frame password)
    (request_frame verb) release_frame
    (subst (λ (n : ℕ). text_at (due_frames verb password progress) n ≡ None) one is)

-- after no message was given, the request is among those given if it was
asked_same : (given : ℕ) (accepted asked : Bool) → asked ≡ has_request given
    → (given ≡ 1 → accepted ≡ false) → (asked || (is_second given && accepted)) ≡ has_request given
asked_same zero accepted asked is one = rw is refl
asked_same (suc zero) accepted asked is one = rw (is, one refl) refl
asked_same (suc (suc given)) accepted asked is one = rw is refl

-- the request may be given if it is the next message, and was not held back
may_if : (due cleared may : Bool) → (due && not cleared) ≡ false → cleared ≡ may → due ≡ true
    → may ≡ true
may_if true true may held is now = sym is
may_if true false may held is now = absurd cc
may_if false cleared may held is now = absurd cc

due_second : (given : ℕ) (accepted : Bool) → given ≡ 1 → accepted ≡ true
    → (is_second given && accepted) ≡ true
due_second given accepted one is = rw (one, is) refl

given_in : (old new : Talk) (due : Bool) (result : Option (List ℕ)) (verb : Verb)
    (password : List ℕ) (life : Life) → GivesNextMessage old.client result new.client
    → TellsRequest old.client due → (due && not old.is_cleared) ≡ false
    → new.is_cleared ≡ old.is_cleared → new.has_asked ≡ (old.has_asked || due)
    → IsTalk verb password life old → GivesIn verb password life result new
given_in old new due None verb password life gives tells held cleared asks is =
    let told = tells.told verb password life.fed life.given false is.stands in
    let none = sym (gives.text verb password life.fed life.given false is.stands) in (
      inl none,
      record {
        stands = gives.stands verb password life.fed life.given false is.stands;
        cleared = cleared ∙ is.cleared;
        asked = asks ∙ ap (λ (b : Bool). old.has_asked || b) told
            ∙ asked_same life.given (progress_of verb life.fed).accepted old.has_asked is.asked
            (λ one. unaccepted_second verb password (progress_of verb life.fed) life.given none
            one);
      },
    )
given_in old new due (Some text) verb password life gives tells held cleared asks is =
    let told = tells.told verb password life.fed life.given false is.stands in
    let next = gives.text verb password life.fed life.given false is.stands in
    let accepted = λ (one : life.given ≡ 1).
    accepted_second verb password (progress_of verb life.fed) life.given text next one in (
      record {
        text_is = sym next;
        allowed = λ one. may_if due old.is_cleared (may_command verb life.is_marked) held is.cleared
            (told ∙ due_second life.given (progress_of verb life.fed).accepted one (accepted one));
      },
      record {
        stands = gives.stands verb password life.fed life.given false is.stands;
        cleared = cleared ∙ is.cleared;
        asked = asks ∙ ap (λ (b : Bool). old.has_asked || b) told
            ∙ asked_more life.given (progress_of verb life.fed).accepted old.has_asked is.asked
            accepted;
      },
    )

-- the next message of the client is given, if it is not a request that waits for its mark
pub gives_next : (old new : Talk) (due : Bool) (result : Option (List ℕ))
    → GivesNextMessage old.client result new.client → TellsRequest old.client due
    → (due && not old.is_cleared) ≡ false
    → new.is_cleared ≡ old.is_cleared → new.has_asked ≡ (old.has_asked || due)
    → GivesText old result new
gives_next old new due result gives tells held cleared asks = record {
  gives = λ verb password life is. given_in old new due result verb password life gives tells held
      cleared asks is;
}

pub receives_any : {E : Type 0} (old : Talk) (client : Client) (bytes : List ℕ)
    (result : Result (Unit {0}) E) → OnOk result (Feeds old.client bytes client)
    → OnErr result (client ≡ old.client)
    → Receives old bytes result (record old { client = client })
receives_any {E} old client bytes (Ok x) ok err = record {
  receives = λ verb password life is. record {
    stands = ok.stands verb password life.fed life.given false is.stands;
    cleared = is.cleared;
    asked = is.asked;
  };
}
receives_any old client bytes (Err e) ok err = record {
  receives = λ verb password life is. rw err is;
}

pub gives_up : (old : Talk) (mid : Client) (told : Option Outcome) → Ends old.client mid
    → Tells mid told → GivesUp old (unwrap_or told Unknown)
gives_up old mid told ends tells = record {
  outcome_is = λ verb password life is.
      ap (λ (o : Option Outcome). unwrap_or o Unknown)
      (tells.told verb password life.fed life.given true
      (ends.stands verb password life.fed life.given false is.stands));
}

pub tells_due : (talk : Talk) (due : Bool) → TellsRequest talk.client due
    → TellsDue talk (not talk.is_cleared && due)
tells_due talk due tells = record {
  told = λ verb password life is.
      rw is.cleared (ap (λ (b : Bool). not (may_command verb life.is_marked) && b)
      (tells.told verb password life.fed life.given false is.stands));
}
