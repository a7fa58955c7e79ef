-- The calls of a place.
use Rattle.std.proofs.Common.{◌≡◌, ℕ, Bool, true, false, List, Option, Some, None, Result, Ok, Err, refl, sym, ◌∙◌, subst}
use Rattle.std.specs.Prelude.{not, ◌&&◌, ◌||◌}
use Rattle.client_core.specs.declared.job.Verb.{Verb}
use Rattle.campaign_board.specs.declared.place.Ending.{Ending}
use Rattle.campaign_board.specs.declared.talk.Talk.{Talk}
use Rattle.campaign_board.specs.Lives.{Life}
use Rattle.campaign_board.specs.Talks.{PlaceState, GivesText, Receives, GivesUp, TellsDue, IsOpen, IsDue, IsPlaceOf, IsPlace, HandsIn, HandsText, TakesIn, TakesBytes, SaysDue, EndsIn, EndsPlace, fed_life, clear_option, cleared_place, may_command, is_request_next}

-- a place without a conversation is not open
unopened : (verb : Verb) (password : List ℕ) (life : Life) (ending : Option Ending)
    → IsPlaceOf verb password life None ending → IsOpen life → ⊥
unopened verb password life None is opened = absurd (cc)
unopened verb password life (Some ending) is opened = absurd (cc)

-- a place without a conversation gives nothing
pub hands_nothing : (place : PlaceState) → place.talk ≡ None → HandsText place None place
hands_nothing place none = record {
  hands = λ verb password life is. (
    is,
    λ opened. absurd (unopened verb password life place.ending
        (subst (λ (t : Option Talk). IsPlaceOf verb password life t place.ending) none is) opened),
  );
}

hands_in : (verb : Verb) (password : List ℕ) (life : Life) (old new : Talk)
    (ending : Option Ending) (result : Option (List ℕ)) → GivesText old result new
    → IsPlaceOf verb password life (Some old) ending
    → HandsIn verb password life result (record { talk = Some new; ending = ending })
hands_in verb password life old new (Some ending) result gives is = absurd is
hands_in verb password life old new None None gives is =
    let given = gives.gives verb password life is.1 in
    ((is.0, given.1), λ opened. given.0)
hands_in verb password life old new None (Some text) gives is =
    let given = gives.gives verb password life is.1 in (
      is.0,
      given.0,
      (
        record { has_begun = is.0.has_begun; is_not_over = is.0.is_not_over },
        given.1,
      ),
    )

pub hands_text : (place place' : PlaceState) (old new : Talk) (result : Option (List ℕ))
    → place.talk ≡ Some old → place' ≡ record { talk = Some new; ending = place.ending }
    → GivesText old result new → HandsText place result place'
hands_text place place' old new result was now gives = record {
  hands = λ verb password life is. rw now
      (hands_in verb password life old new place.ending result gives
      (subst (λ (t : Option Talk). IsPlaceOf verb password life t place.ending) was is));
}

-- ---- bytes

pub takes_nothing : {E : Type 0} (place : PlaceState) (bytes : List ℕ) (due : Bool)
    → place.talk ≡ None → TakesBytes {E = E} place bytes (Ok due) place
takes_nothing {E} place bytes due none = record {
  takes = λ verb password life is.
      subst (λ (t : Option Talk). TakesIn {E = E} verb password life t bytes (Ok due) place)
      (sym none) is;
}

takes_in : {A E : Type 0} (verb : Verb) (password : List ℕ) (life : Life) (old new : Talk)
    (ending : Option Ending) (bytes : List ℕ) (result : Result A E)
    → Receives old bytes result new
    → IsPlaceOf verb password life (Some old) ending
    → IsPlaceOf verb password (fed_life bytes result life) (Some new) ending
takes_in verb password life old new (Some ending) bytes result receives is = absurd is
takes_in verb password life old new None bytes (Ok x) receives is = (
  record { has_begun = is.0.has_begun; is_not_over = is.0.is_not_over },
  receives.receives verb password life is.1,
)
takes_in verb password life old new None bytes (Err e) receives is =
    (is.0, receives.receives verb password life is.1)

pub takes_ok : {A E F : Type 0} (place place' : PlaceState) (old new : Talk) (bytes : List ℕ)
    (x : A)
    (due : Bool)
    → place.talk ≡ Some old → place' ≡ record { talk = Some new; ending = place.ending }
    → Receives {A = A} {E = E} old bytes (Ok x) new
    → TakesBytes {E = F} place bytes (Ok due) place'
takes_ok place place' old new bytes x due was now receives = record {
  takes = λ verb password life is. rw (was, now)
      (takes_in verb password life old new place.ending bytes (Ok x) receives
      (subst (λ (t : Option Talk). IsPlaceOf verb password life t place.ending) was is));
}

pub takes_err : {A E F : Type 0} (place place' : PlaceState) (old new : Talk) (bytes : List ℕ)
    (e : E)
    (f : F)
    → place.talk ≡ Some old → place' ≡ record { talk = Some new; ending = place.ending }
    → Receives {A = A} {E = E} old bytes (Err e) new
    → TakesBytes {E = F} place bytes (Err f) place'
takes_err place place' old new bytes e f was now receives = record {
  takes = λ verb password life is. rw (was, now)
      (takes_in verb password life old new place.ending bytes (Err e) receives
      (subst (λ (t : Option Talk). IsPlaceOf verb password life t place.ending) was is));
}

-- ---- marks that are due

says_in : (verb : Verb) (password : List ℕ) (life : Life) (talk : Talk) (ending : Option Ending)
    (due : Bool) → TellsDue talk due → IsPlaceOf verb password life (Some talk) ending → due ≡ true
    → IsDue verb life
says_in verb password life talk (Some ending) due tells is now = absurd is
says_in verb password life talk None due tells is now =
    due_of verb life (may_command verb life.is_marked) (is_request_next verb life) is.0 refl refl
    (sym (tells.told verb password life is.1) ∙ now)
  where
    due_of : (verb : Verb) (life : Life) (may next : Bool) → IsOpen life
        → may_command verb life.is_marked ≡ may → is_request_next verb life ≡ next
        → (not may && next) ≡ true → IsDue verb life
    due_of verb life true next opened may_is next_is both = absurd cc
    due_of verb life false true opened may_is next_is both = record {
      is_open = opened;
      is_next = next_is;
      waits = may_is;
    }
    due_of verb life false false opened may_is next_is both = absurd cc

pub says_due : (place : PlaceState) (talk : Talk) (due : Bool) → place.talk ≡ Some talk
    → TellsDue talk due → SaysDue place due
says_due place talk due was tells = record {
  says = λ verb password life is now. says_in verb password life talk place.ending due tells
      (subst (λ (t : Option Talk). IsPlaceOf verb password life t place.ending) was is) now;
}

pub says_nothing : (place : PlaceState) → SaysDue place false
says_nothing place = record { says = λ verb password life is now. absurd cc }

-- ---- the end

pub ends_nothing : (place : PlaceState) → place.talk ≡ None → EndsPlace place None place
ends_nothing place none = record {
  ends = λ verb password life is. (
    is,
    λ opened. absurd (unopened verb password life place.ending
        (subst (λ (t : Option Talk). IsPlaceOf verb password life t place.ending) none is) opened),
  );
}

ends_in : (verb : Verb) (password : List ℕ) (life : Life) (old : Talk) (before : Option Ending)
    (ending : Ending) → GivesUp old ending.outcome → ending.was_asked ≡ old.has_asked
    → IsPlaceOf verb password life (Some old) before
    → EndsIn verb password life (Some ending) (record { talk = None; ending = Some ending })
ends_in verb password life old (Some earlier) ending gives asked is = absurd is
ends_in verb password life old None ending gives asked is = (
  is.0,
  record {
    outcome_is = gives.outcome_is verb password life is.1;
    asked_is = asked ∙ is.1.asked;
  },
  record {
    has_begun = is.0.has_begun;
    is_over = refl;
    ending_is = record {
      outcome_is = gives.outcome_is verb password life is.1;
      asked_is = asked ∙ is.1.asked;
    };
  },
)

pub ends_talk : (place place' : PlaceState) (old : Talk) (ending : Ending)
    → place.talk ≡ Some old → place' ≡ record { talk = None; ending = Some ending }
    → GivesUp old ending.outcome → ending.was_asked ≡ old.has_asked
    → EndsPlace place (Some ending) place'
ends_talk place place' old ending was now gives asked = record {
  ends = λ verb password life is. rw now
      (ends_in verb password life old place.ending ending gives asked
      (subst (λ (t : Option Talk). IsPlaceOf verb password life t place.ending) was is));
}

-- ---- marks that were committed

or_true : (b : Bool) → (b || true) ≡ true
or_true true = refl
or_true false = refl

cleared_of : (verb : Verb) (password : List ℕ) (life : Life) (talk : Option Talk)
    (ending : Option Ending) → IsOpen life → IsPlaceOf verb password life talk ending
    → IsPlaceOf verb password (record life { is_marked = true }) (clear_option talk) ending
cleared_of verb password life None None opened is = absurd (cc)
cleared_of verb password life (Some talk) None opened is = (
  record { has_begun = is.0.has_begun; is_not_over = is.0.is_not_over },
  record {
    stands = is.1.stands;
    cleared = sym (or_true _);
    asked = is.1.asked;
  },
)
cleared_of verb password life None (Some ending) opened is = absurd (cc)
cleared_of verb password life (Some talk) (Some ending) opened is = absurd is

-- an open place with a mark may give its request
pub cleared_is : (verb : Verb) (password : List ℕ) (life : Life) (place : PlaceState)
    → IsOpen life → IsPlace verb password life place
    → IsPlace verb password (record life { is_marked = true }) (cleared_place place)
cleared_is verb password life place opened is =
    cleared_of verb password life place.talk place.ending opened is
