-- The calls of a board.
use Rattle.std.proofs.Common.{◌≡◌, ◌⊎◌, ◌<◌, ◌≤◌, ◌-◌, ◌++◌, ◌∷◌, ℕ, zero, suc, Bool, true, false, List, [], Option, Some, None, Result, Ok, Err, refl, sym, ◌∙◌, ap, subst, length, inl, inr, arith, true≢false}
use Rattle.std.specs.Prelude.{if◌then◌else◌, ◌&&◌, slice_get, is_some, is_none}
use Rattle.std.specs.Bool.{OnTrue}
use Rattle.std.proofs.lemmas.Bool.{eq-eqb, cases_Bool, cases_eq}
use Rattle.std.proofs.lemmas.Option.{slice_get_within}
use Rattle.std.proofs.lemmas.List.{length-set}
use Rattle.client_core.specs.declared.job.Job.{Job}
use Rattle.client_core.specs.declared.job.Outcome.{Outcome}
use Rattle.client_core.specs.declared.job.Verb.{Verb}
use Rattle.campaign_ledger.specs.declared.book.PlaceOutcome.{PlaceOutcome}
use Rattle.campaign_ledger.specs.declared.entry.LedgerEntry.{LedgerEntry}
use Rattle.campaign_ledger.specs.declared.entry.LedgerEntry.TheVariants.{NotSent, MaybeSent, Came}
use Rattle.campaign_ledger.specs.Entries.{entry_at}
use Rattle.campaign_ledger.specs.Groups.{has}
use Rattle.campaign_board.specs.declared.place.Ending.{Ending}
use Rattle.campaign_board.specs.declared.talk.Talk.{Talk}
use Rattle.campaign_board.specs.Lives.{Happening, began, received, lost, handed, ended, Life, life_of, life_after}
use Rattle.campaign_board.specs.Talks.{PlaceState, IsPlace, IsPlaceOf, IsOpen, IsNew, IsEnding, TakesIn, StartsTalk, cleared_place, has_talk, has_request}
use Rattle.campaign_board.specs.Histories.{Terms, open_count, with_outcome, is_open, open_below, MayBegin, AreMarks}
use Rattle.campaign_board.specs.Updates.{HandsAt, HandsThere, TakesAt, EndsAt, EndsThere, OpensPlace, Replaces, ClearsMarked, AreDueAt, is_waiting, is_talking, is_ended, is_over_at, is_ready, is_settled, is_not_sent, ending_by, AreSettled}
use Rattle.campaign_board.specs.Boards.{BoardState, IsBoard, ArePlaces, IsEarlier, Gives, GivesIn, Begins, Hears, Ends, Commits, ending_of, ending_at, TellsEnding, IsSettled, IsNewBoard}
use Rattle.campaign_board.specs.Building.{AreBeforeOf, AreNew}
use Rattle.campaign_board.proofs.Lists.{get_within}
use Rattle.campaign_board.proofs.LegalLemmas.{legal_safe, has_begun}
use Rattle.campaign_board.proofs.PlaceLemmas.{cleared_is}
use Rattle.campaign_board.proofs.Steps.{places_after, places_same, mark_stays}

-- ---- the life of a place after a step there

life_handed : (at : ℕ) (text : List ℕ) (life : Life)
    → life_after at (handed at text) life ≡ record life { given = suc life.given }
life_handed at text life = rw (eq-eqb at at refl) refl

life_began : (at : ℕ) (life : Life) → life_after at
    (began at) life ≡ record life { has_begun = true }
life_began at life = rw (eq-eqb at at refl) refl

life_received : (at : ℕ) (bytes : List ℕ) (life : Life)
    → life_after at (received at bytes) life ≡ record life { fed = life.fed ++ bytes }
life_received at bytes life = rw (eq-eqb at at refl) refl

life_ended : (at : ℕ) (outcome : Outcome) (life : Life)
    → life_after at (ended at outcome) life ≡ record life { is_over = true }
life_ended at outcome life = rw (eq-eqb at at refl) refl

-- ---- what a place says of its life

-- a place without a conversation and an end is new
new_place : (verb : Verb) (password : List ℕ) (life : Life) (place : PlaceState)
    → place.talk ≡ None → place.ending ≡ None → IsPlace verb password life place → IsNew life
new_place verb password life place no_talk no_ending is =
    subst (λ (o : Option Ending). IsPlaceOf verb password life None o) no_ending
    (subst (λ (t : Option Talk). IsPlaceOf verb password life t place.ending) no_talk is)

-- a place with an end is over
over_of : (verb : Verb) (password : List ℕ) (life : Life) (talk : Option Talk)
    (ending : Option Ending) → is_some ending ≡ true → IsPlaceOf verb password life talk ending
    → life.is_over ≡ true
over_of verb password life None None some is = absurd cc
over_of verb password life (Some talk) None some is = absurd cc
over_of verb password life None (Some ending) some is = is.is_over
over_of verb password life (Some talk) (Some ending) some is = absurd is

-- a place without an end is not over
not_over_of : (verb : Verb) (password : List ℕ) (life : Life) (talk : Option Talk)
    (ending : Option Ending) → is_some ending ≡ false → IsPlaceOf verb password life talk ending
    → life.is_over ≡ false
not_over_of verb password life None None some is = is.is_not_over
not_over_of verb password life (Some talk) None some is = is.0.is_not_over
not_over_of verb password life talk (Some ending) some is = absurd cc

-- a place that does not wait has begun
begun_of : (verb : Verb) (password : List ℕ) (life : Life) (talk : Option Talk)
    (ending : Option Ending) → (is_none talk && is_none ending) ≡ false
    → IsPlaceOf verb password life talk ending → life.has_begun ≡ true
begun_of verb password life None None waits is = absurd cc
begun_of verb password life (Some talk) None waits is = is.0.has_begun
begun_of verb password life None (Some ending) waits is = is.has_begun
begun_of verb password life (Some talk) (Some ending) waits is = absurd is

-- a new conversation at a place that waited
opened_place : (verb : Verb) (password : List ℕ) (life : Life) (talk : Talk) → IsNew life
    → StartsTalk verb password talk
    → IsPlaceOf verb password (record life { has_begun = true }) (Some talk) None
opened_place verb password life talk new starts = (
  record { has_begun = refl; is_not_over = new.is_not_over },
  starts.is_talk (record life { has_begun = true }) new.no_bytes new.no_texts new.no_mark,
)

-- the end of a place, by its life
ending_in_of : (verb : Verb) (password : List ℕ) (life : Life) (talk : Option Talk)
    (ending : Option Ending) → IsPlaceOf verb password life talk ending
    → ending ≡ ending_at NotSent verb life
ending_in_of verb password life None None is = rw is.is_not_over refl
ending_in_of verb password life (Some talk) None is = rw is.0.is_not_over refl
ending_in_of verb password life None (Some ending) is =
    rw is.is_over (ap (λ (e : Ending). Some e) (same_ending verb life ending is.ending_is))
  where
    same_ending : (verb : Verb) (life : Life) (ending : Ending) → IsEnding verb life ending
        → ending ≡ ending_of verb life
    same_ending verb life ending is = rw (← is.outcome_is, ← is.asked_is) refl
ending_in_of verb password life (Some talk) (Some ending) is = absurd is

-- ---- a place of a list

-- a place that is not there
not_there : (places : List PlaceState) (count at : ℕ) → length places ≡ count → at < count
    → slice_get places at ≡ None → ⊥
not_there places count at is within none = get_within places at (omega (arith, is)) none

-- either there is a place, or none
pub record IsThere (places : List PlaceState) (at : ℕ) : Type 0 where
  pub place : PlaceState
  pub is : slice_get places at ≡ Some place

there_by : (places : List PlaceState) (at : ℕ) (found : Option PlaceState)
    → slice_get places at ≡ found → at < length places → IsThere places at
there_by places at None is within = absurd (get_within places at within is)
there_by places at (Some place) is within = record { place = place; is = is }

pub there : (places : List PlaceState) (at : ℕ) → at < length places → IsThere places at
there places at within = there_by places at (slice_get places at) refl within

-- an open place is one of those counted
some_open : (n at : ℕ) (steps : List Happening) → at < n → is_open (life_of at steps) ≡ true
    → 1 ≤ open_below n steps
some_open zero at steps within opened = absurd (omega arith)
some_open (suc n) at steps within opened =
    elim (cases_Bool (is_open (life_of n steps))) [
      | inl here ↦ rw here (omega arith)
      | inr closed ↦ rw closed (some_open n at steps (below_n n at steps within opened closed
          (cases_eq at n)) opened)
    ]
  where
    below_n : (n at : ℕ) (steps : List Happening) → at < suc n
        → is_open (life_of at steps) ≡ true → is_open (life_of n steps) ≡ false
        → (at ≡ n) ⊎ (at ≡ n → ⊥) → at < n
    below_n n at steps within opened closed (inl same) = absurd (true≢false
        (sym opened ∙ ap (λ (p : ℕ). is_open (life_of p steps)) same ∙ closed))
    below_n n at steps within opened closed (inr apart) = omega (arith, within, apart)

open_life : (life : Life) → IsOpen life → is_open life ≡ true
open_life life opened = rw (opened.has_begun, opened.is_not_over) refl

-- ---- the boards

module _ {B : Type 0} (is_honest : B → Type 0) (is_marked : B → ℕ → Type 0) where
  -- a board whose place was replaced by one with the same life
  replaced : (terms : Terms) (steps : List Happening) (old : BoardState B) (at : ℕ)
      (place place' : PlaceState) (places' : List PlaceState)
      → IsBoard is_honest is_marked terms steps old
      → Replaces old.places at place place' places'
      → IsPlace (terms.job at).verb (terms.password at) (life_of at steps) place'
      → IsBoard is_honest is_marked terms steps (record old { places = places' })
  replaced terms steps old at place place' places' board replaces is = record {
    legal = board.legal;
    count = ap length replaces.new_is ∙ length-set old.places at place' ∙ board.count;
    places = subst (λ (ps : List PlaceState). ArePlaces terms steps ps) (sym replaces.new_is)
        (places_same terms steps at old.places place place' board.places replaces.was is);
    found = board.found;
    marked = board.marked;
    busy = board.busy;
    limit = board.limit;
    before = board.before;
    before_count = board.before_count;
    outcomes = board.outcomes;
  }

  -- ---- messages

  hands_there : (terms : Terms) (steps : List Happening) (old : BoardState B) (at : ℕ)
      (result : Option (List ℕ)) (places' : List PlaceState)
      → IsBoard is_honest is_marked terms steps old → HandsThere old.places at result places'
      → GivesIn is_honest is_marked terms steps at result (record old { places = places' })
  hands_there terms steps old at None places' board there =
      let handed_is = there.hands.hands (terms.job at).verb (terms.password at) (life_of at steps)
      (board.places at there.place there.replaces.was) in (
        replaced terms steps old at there.place there.place' places' board there.replaces
            handed_is.0,
        λ within opened. handed_is.1 opened,
      )
  hands_there terms steps old at (Some text) places' board there =
      let handed_is = there.hands.hands (terms.job at).verb (terms.password at) (life_of at steps)
      (board.places at there.place there.replaces.was) in
      record {
        legal = ((handed_is.0, handed_is.1), board.legal);
        count = ap length there.replaces.new_is ∙ length-set old.places at there.place'
            ∙ board.count;
        places = subst (λ (ps : List PlaceState). ArePlaces terms (handed at text ∷ steps) ps)
            (sym there.replaces.new_is)
            (places_after terms steps (handed at text) at old.places there.place there.place'
            board.places refl there.replaces.was
            (subst (λ (life : Life). IsPlace (terms.job at).verb (terms.password at) life
            there.place') (sym (life_handed at text (life_of at steps))) handed_is.2));
        found = board.found;
        marked = λ honest other is. board.marked honest other
            (sym (mark_stays at other (handed at text) (life_of other steps) refl) ∙ is);
        busy = board.busy;
        limit = board.limit;
        before = board.before;
        before_count = board.before_count;
        outcomes = board.outcomes;
      }

  pub gives_board : (old : BoardState B) (at : ℕ) (result : Option (List ℕ))
      (places' : List PlaceState) → HandsAt old.places at result places'
      → Gives is_honest is_marked old at result (record old { places = places' })
  gives_board old at result places' (inl absent) = record {
    gives = λ terms steps board. rw (absent.1, absent.0.same) (
      board,
      λ within opened.
          absurd (not_there old.places terms.count at board.count within absent.0.absent),
    );
  }
  gives_board old at result places' (inr there) = record {
    gives = λ terms steps board. hands_there terms steps old at result places' board there;
  }

  -- ---- a job begins

  alone_by : (terms : Terms) (steps : List Happening) (old : BoardState B) (at : ℕ)
      (before : Option ℕ) (found : Option PlaceState)
      → IsBoard is_honest is_marked terms steps old
      → slice_get old.before at ≡ Some before → is_over_at old.places before ≡ true → (other : ℕ)
      → IsEarlier terms (terms.job at).address at other → (life_of other steps).is_over ≡ true
  alone_by terms steps old at None found board was over other earlier =
      absurd (board.before at None was other earlier)
  alone_by terms steps old at (Some last) found board was over other earlier =
      let is = board.before at (Some last) was in
      let last_is_over = ended_last (slice_get old.places last) refl over in
      elim (is.1 other earlier) [
        | inl here ↦ ap (λ (n : ℕ). (life_of n steps).is_over) here ∙ last_is_over
        | inr before_it ↦ (legal_safe terms steps board.legal).alone last other before_it
            earlier.not_sent (earlier.same ∙ sym is.0.same)
            ((has_begun terms steps last board.legal).over last_is_over)
      ]
    where
      ended_last : (place : Option PlaceState) → slice_get old.places last ≡ place
          → is_ended place ≡ true → (life_of last steps).is_over ≡ true
      ended_last None got is = absurd cc
      ended_last (Some place) got is = over_of (terms.job last).verb (terms.password last)
          (life_of last steps) place.talk place.ending is (board.places last place got)

  -- a place whose job must not wait has an entry of the last earlier job of its address
  ready_before : (places : List PlaceState) (before : List (Option ℕ)) (at : ℕ)
      (found : Option (Option ℕ)) → slice_get before at ≡ found → is_ready places found ≡ true
      → (last : Option ℕ) × (slice_get before at ≡ Some last) × (is_over_at places last ≡ true)
  ready_before places before at None got ready = absurd cc
  ready_before places before at (Some last) got ready = (last, got, ready)

  begun : (terms : Terms) (steps : List Happening) (old : BoardState B) (at : ℕ) (job : Job)
      (password : List ℕ) (talk : Talk) (places' : List PlaceState) (busy' : ℕ)
      → IsBoard is_honest is_marked terms steps old → old.busy < old.limit
      → is_not_sent (entry_at old.found at) ≡ true
      → is_ready old.places (slice_get old.before at) ≡ true
      → terms.job at ≡ job → terms.password at ≡ password
      → StartsTalk job.verb password talk → OpensPlace old.places at talk places'
      → busy' ≡ suc old.busy
      → IsBoard is_honest is_marked terms (began at ∷ steps)
      (record old { places = places'; busy = busy' })
  begun terms steps old at job password talk places' busy' board room fresh ready job_is
      password_is starts opens busy_is =
      let new : IsNew (life_of at steps) = new_place (terms.job at).verb (terms.password at)
      (life_of at steps) opens.place opens.no_talk opens.no_ending
      (board.places at opens.place opens.replaces.was) in
      let starts_there : StartsTalk (terms.job at).verb (terms.password at) talk =
      subst (λ (p : List ℕ). StartsTalk (terms.job at).verb p talk) (sym password_is)
      (subst (λ (j : Job). StartsTalk j.verb password talk) (sym job_is) starts) in
      let last = ready_before old.places old.before at (slice_get old.before at) refl ready in
      record {
        legal = (
          record {
            within = subst (λ (n : ℕ). at < n) board.count
                (slice_get_within old.places at opens.place opens.replaces.was);
            not_sent = board.found at ∙ not_sent_by (entry_at old.found at) fresh;
            is_new = new.has_not_begun;
            room = subst (λ (n : ℕ). open_count steps < n) board.limit
                (subst (λ (n : ℕ). n < old.limit) board.busy room);
            alone = λ other earlier not_sent same. alone_by terms steps old at last.0 None board
                last.1 last.2 other (record {
                  earlier = earlier;
                  not_sent = not_sent;
                  same = same;
                });
          },
          board.legal,
        );
        count = ap length opens.replaces.new_is
            ∙ length-set old.places at (record { talk = Some talk; ending = None }) ∙ board.count;
        places = subst (λ (ps : List PlaceState). ArePlaces terms (began at ∷ steps) ps)
            (sym opens.replaces.new_is)
            (places_after terms steps (began at) at old.places opens.place
            (record { talk = Some talk; ending = None }) board.places refl opens.replaces.was
            (subst (λ (life : Life). IsPlaceOf (terms.job at).verb (terms.password at) life
            (Some talk) None) (sym (life_began at (life_of at steps)))
            (opened_place (terms.job at).verb (terms.password at) (life_of at steps) talk new
            starts_there)));
        found = board.found;
        marked = λ honest other is. board.marked honest other
            (sym (mark_stays at other (began at) (life_of other steps) refl) ∙ is);
        busy = busy_is ∙ ap suc board.busy;
        limit = board.limit;
        before = board.before;
        before_count = board.before_count;
        outcomes = board.outcomes;
      }
    where
      not_sent_by : (entry : LedgerEntry) → is_not_sent entry ≡ true → entry ≡ NotSent
      not_sent_by NotSent is = refl
      not_sent_by MaybeSent is = absurd cc
      not_sent_by (Came outcome) is = absurd cc

  pub begins_board : {E : Type 0} (old : BoardState B) (at : ℕ) (job : Job) (password : List ℕ)
      (talk : Talk) (places' : List PlaceState) (busy' : ℕ) → old.busy < old.limit
      → is_not_sent (entry_at old.found at) ≡ true
      → is_ready old.places (slice_get old.before at) ≡ true
      → StartsTalk job.verb password talk → OpensPlace old.places at talk places'
      → busy' ≡ suc old.busy
      → Begins is_honest is_marked {E = E} old at job password (Ok true)
      (record old { places = places'; busy = busy' })
  begins_board old at job password talk places' busy' room fresh ready starts opens busy_is =
      record {
        begins = λ terms steps board job_is password_is. begun terms steps old at job password talk
            places' busy' board room fresh ready job_is password_is starts opens busy_is;
      }

  -- no connection is free
  pub begins_full : {E : Type 0} (old : BoardState B) (at : ℕ) (job : Job) (password : List ℕ)
      → old.limit ≤ old.busy → Begins is_honest is_marked {E = E} old at job password (Ok false) old
  begins_full old at job password full = record {
    begins = λ terms steps board j p. (
      board,
      λ may.
          let room = may.room in let busy = board.busy in let limit = board.limit in
          omega (arith, full, room, busy, limit),
    );
  }

  -- its command may have been sent before
  pub begins_sent : {E : Type 0} (old : BoardState B) (at : ℕ) (job : Job) (password : List ℕ)
      → is_not_sent (entry_at old.found at) ≡ false
      → Begins is_honest is_marked {E = E} old at job password (Ok false) old
  begins_sent old at job password sent = record {
    begins = λ terms steps board j p. (
      board,
      λ may. true≢false
          (sym (ap is_not_sent (sym (board.found at) ∙ may.not_sent)) ∙ sent),
    );
  }

  -- an earlier job of its address is not over
  pub begins_waiting : {E : Type 0} (old : BoardState B) (at : ℕ) (job : Job) (password : List ℕ)
      → is_ready old.places (slice_get old.before at) ≡ false
      → Begins is_honest is_marked {E = E} old at job password (Ok false) old
  begins_waiting old at job password waits = record {
    begins = λ terms steps board j p. (
      board,
      λ may.
          not_ready terms steps board (slice_get old.before at) refl waits may,
    );
  }
    where
      last_over : (terms : Terms) (steps : List Happening)
          → IsBoard is_honest is_marked terms steps old → (last : ℕ) (place : Option PlaceState)
          → slice_get old.places last ≡ place → is_ended place ≡ false → last < terms.count
          → (life_of last steps).is_over ≡ true → ⊥
      last_over terms steps board last None got unended within over =
          not_there old.places terms.count last board.count within got
      last_over terms steps board last (Some place) got unended within over =
          true≢false (sym over ∙ not_over_of (terms.job last).verb (terms.password last)
          (life_of last steps) place.talk place.ending unended (board.places last place got))

      not_ready : (terms : Terms) (steps : List Happening)
          → IsBoard is_honest is_marked terms steps old → (found : Option (Option ℕ))
          → slice_get old.before at ≡ found → is_ready old.places found ≡ false
          → MayBegin terms steps at → ⊥
      not_ready terms steps board None got ready may =
          get_within old.before at (let count = board.before_count in let within = may.within in
          omega (arith, count, within)) got
      not_ready terms steps board (Some None) got ready may = true≢false ready
      not_ready terms steps board (Some (Some last)) got ready may =
          let is = board.before at (Some last) got in
          last_over terms steps board last (slice_get old.places last) refl ready
          (let earlier = is.0.earlier in let within = may.within in
          omega (arith, earlier, within))
          (may.alone last is.0.earlier is.0.not_sent is.0.same)

  -- its place does not wait
  pub begins_again : {E : Type 0} (old : BoardState B) (at : ℕ) (job : Job) (password : List ℕ)
      → is_waiting (slice_get old.places at) ≡ false
      → Begins is_honest is_marked {E = E} old at job password (Ok false) old
  begins_again old at job password waits = record {
    begins = λ terms steps board j p. (
      board,
      λ may.
          not_new terms steps board (slice_get old.places at) refl waits may,
    );
  }
    where
      not_new : (terms : Terms) (steps : List Happening)
          → IsBoard is_honest is_marked terms steps old → (place : Option PlaceState)
          → slice_get old.places at ≡ place → is_waiting place ≡ false → MayBegin terms steps at
          → ⊥
      not_new terms steps board None got waits may =
          not_there old.places terms.count at board.count may.within got
      not_new terms steps board (Some place) got waits may =
          true≢false (sym (begun_of (terms.job at).verb (terms.password at) (life_of at steps)
          place.talk place.ending waits (board.places at place got)) ∙ may.is_new)

  pub begins_err : {E : Type 0} (old : BoardState B) (at : ℕ) (job : Job) (password : List ℕ)
      (e : E) → Begins is_honest is_marked old at job password (Err e) old
  begins_err old at job password e = record { begins = λ terms steps board j p. board }

  -- ---- bytes

  heard : (terms : Terms) (steps : List Happening) (old : BoardState B) (at : ℕ) (bytes : List ℕ)
      (place place' : PlaceState) (places' : List PlaceState)
      → IsBoard is_honest is_marked terms steps old
      → Replaces old.places at place place' places' → IsOpen (life_of at steps)
      → IsPlace (terms.job at).verb (terms.password at)
      (record (life_of at steps) { fed = (life_of at steps).fed ++ bytes }) place'
      → IsBoard is_honest is_marked terms (received at bytes ∷ steps)
      (record old { places = places' })
  heard terms steps old at bytes place place' places' board replaces opened is = record {
    legal = (opened, board.legal);
    count = ap length replaces.new_is ∙ length-set old.places at place' ∙ board.count;
    places = subst (λ (ps : List PlaceState). ArePlaces terms (received at bytes ∷ steps) ps)
        (sym replaces.new_is)
        (places_after terms steps (received at bytes) at old.places place place' board.places refl
        replaces.was
        (subst (λ (life : Life). IsPlace (terms.job at).verb (terms.password at) life place')
        (sym (life_received at bytes (life_of at steps))) is));
    found = board.found;
    marked = λ honest other marked. board.marked honest other
        (sym (mark_stays at other (received at bytes) (life_of other steps) refl) ∙ marked);
    busy = board.busy;
    limit = board.limit;
    before = board.before;
    before_count = board.before_count;
    outcomes = board.outcomes;
  }

  open_of : (verb : Verb) (password : List ℕ) (life : Life) (talk : Talk) (ending : Option Ending)
      → IsPlaceOf verb password life (Some talk) ending → IsOpen life
  open_of verb password life talk None is = is.0
  open_of verb password life talk (Some ending) is = absurd is

  heard_talk : (E : Type 0) (terms : Terms) (steps : List Happening) (old : BoardState B) (at : ℕ)
      (bytes : List ℕ) (due : Bool) (place place' : PlaceState) (places' : List PlaceState)
      (talk : Option Talk) → has_talk talk ≡ true → IsBoard is_honest is_marked terms steps old
      → Replaces old.places at place place' places'
      → IsPlaceOf (terms.job at).verb (terms.password at) (life_of at steps) talk place.ending
      → TakesIn {E = E} (terms.job at).verb (terms.password at) (life_of at steps) talk bytes
      (Ok due) place'
      → IsBoard is_honest is_marked terms (received at bytes ∷ steps)
      (record old { places = places' })
  heard_talk E terms steps old at bytes due place place' places' None talks board replaces
      was is = absurd cc
  heard_talk E terms steps old at bytes due place place' places' (Some talk) talks board
      replaces was is =
      heard terms steps old at bytes place place' places' board replaces
      (open_of (terms.job at).verb (terms.password at) (life_of at steps) talk place.ending was) is

  lost_bytes : (terms : Terms) (steps : List Happening) (old : BoardState B) (at : ℕ)
      (bytes : List ℕ) (place place' : PlaceState) (places' : List PlaceState)
      → IsBoard is_honest is_marked terms steps old
      → Replaces old.places at place place' places' → IsOpen (life_of at steps)
      → IsPlace (terms.job at).verb (terms.password at) (life_of at steps) place'
      → IsBoard is_honest is_marked terms (lost at bytes ∷ steps)
      (record old { places = places' })
  lost_bytes terms steps old at bytes place place' places' board replaces opened is = record {
    legal = (opened, board.legal);
    count = ap length replaces.new_is ∙ length-set old.places at place' ∙ board.count;
    places = subst (λ (ps : List PlaceState). ArePlaces terms (lost at bytes ∷ steps) ps)
        (sym replaces.new_is)
        (places_after terms steps (lost at bytes) at old.places place place' board.places refl
        replaces.was is);
    found = board.found;
    marked = board.marked;
    busy = board.busy;
    limit = board.limit;
    before = board.before;
    before_count = board.before_count;
    outcomes = board.outcomes;
  }

  lost_talk : {E : Type 0} (terms : Terms) (steps : List Happening) (old : BoardState B) (at : ℕ)
      (bytes : List ℕ) (e : E) (place place' : PlaceState) (places' : List PlaceState)
      (talk : Option Talk) → has_talk talk ≡ true → IsBoard is_honest is_marked terms steps old
      → Replaces old.places at place place' places'
      → IsPlaceOf (terms.job at).verb (terms.password at) (life_of at steps) talk place.ending
      → TakesIn (terms.job at).verb (terms.password at) (life_of at steps) talk bytes
      (Err e) place'
      → IsBoard is_honest is_marked terms (lost at bytes ∷ steps)
      (record old { places = places' })
  lost_talk terms steps old at bytes e place place' places' None talks board replaces was is =
      absurd cc
  lost_talk terms steps old at bytes e place place' places'
      (Some talk) talks board replaces was is =
      lost_bytes terms steps old at bytes place place' places' board replaces
      (open_of (terms.job at).verb (terms.password at) (life_of at steps) talk place.ending was) is

  -- an open place is there
  not_absent : (places : List PlaceState) (at : ℕ) → slice_get places at ≡ None
      → is_talking (slice_get places at) ≡ true → ⊥
  not_absent places at none talks = true≢false (sym (rw none at talks))

  talks_at : (places : List PlaceState) (at : ℕ) (place : PlaceState)
      → slice_get places at ≡ Some place
      → is_talking (slice_get places at) ≡ true → has_talk place.talk ≡ true
  talks_at places at place was talks = rw was at talks

  -- bytes were processed, if the place is open
  pub hears_board : {A E F : Type 0} (old : BoardState B) (at : ℕ) (bytes : List ℕ) (due : Bool)
      (x : A) (places' : List PlaceState)
      → TakesAt {E = F} old.places at bytes (Ok due) places'
      → Hears is_honest is_marked {A = A} {E = E} old at bytes (Ok x)
      (record old { places = places' })
  hears_board {F = F} old at bytes due x places' (inl absent) = record {
    hears = λ terms steps board talks. absurd (not_absent old.places at absent.0.absent talks);
  }
  hears_board {F = F} old at bytes due x places' (inr there) = record {
    hears = λ terms steps board talks.
        let was = board.places at there.place there.replaces.was in
        heard_talk F terms steps old at bytes due there.place there.place' places'
        there.place.talk (talks_at old.places at there.place there.replaces.was talks) board
        there.replaces was
        (there.takes.takes (terms.job at).verb (terms.password at) (life_of at steps) was);
  }

  -- bytes were processed, but the mark cannot wait
  pub hears_full : {A E F : Type 0} (old : BoardState B) (at : ℕ) (bytes : List ℕ) (due : Bool)
      (e : E) (places' : List PlaceState)
      → TakesAt {E = F} old.places at bytes (Ok due) places'
      → Hears is_honest is_marked {A = A} {E = E} old at bytes (Err e)
      (record old { places = places' })
  hears_full {A} {E} {F} old at bytes due e places' takes =
      let ok = hears_board {A = Unit {0}} {E = E} {F = F} old at bytes due tt places' takes
      in record { hears = λ terms steps board talks. inl (ok.hears terms steps board talks) }

  pub hears_any : {A E F : Type 0} (old : BoardState B) (at : ℕ) (bytes : List ℕ) (due : Bool)
      (result : Result A E) (places' : List PlaceState)
      → TakesAt {E = F} old.places at bytes (Ok due) places'
      → Hears is_honest is_marked {A = A} {E = E} old at bytes result
      (record old { places = places' })
  hears_any old at bytes due (Ok x) places' takes =
      hears_board old at bytes due x places' takes
  hears_any old at bytes due (Err e) places' takes =
      hears_full old at bytes due e places' takes

  -- out of memory
  pub hears_err : {A E F : Type 0} (old : BoardState B) (at : ℕ) (bytes : List ℕ)
      (e : E) (f : F) (places' : List PlaceState)
      → TakesAt {E = F} old.places at bytes (Err f) places'
      → Hears is_honest is_marked {A = A} {E = E} old at bytes (Err e)
      (record old { places = places' })
  hears_err old at bytes e f places' (inl absent) = record {
    hears = λ terms steps board talks. absurd (not_absent old.places at absent.0.absent talks);
  }
  hears_err old at bytes e f places' (inr there) = record {
    hears = λ terms steps board talks.
        let was = board.places at there.place there.replaces.was in
        inr (lost_talk terms steps old at bytes f there.place there.place' places' there.place.talk
        (talks_at old.places at there.place there.replaces.was talks) board there.replaces was
        (there.takes.takes (terms.job at).verb (terms.password at) (life_of at steps) was));
  }

  -- ---- the end of a conversation

  ends_there : (terms : Terms) (steps : List Happening) (old : BoardState B) (at : ℕ)
      (ending : Ending) (places' : List PlaceState) (busy' : ℕ) (outcomes' : List PlaceOutcome)
      → EndsThere old.places at (Some ending) places'
      → busy' ≡ old.busy - 1
      → outcomes' ≡ with_outcome ending.was_asked at ending.outcome old.outcomes
      → IsBoard is_honest is_marked terms steps old
      → IsBoard is_honest is_marked terms (ended at ending.outcome ∷ steps)
      (record old { places = places'; busy = busy'; outcomes = outcomes' })
  ends_there terms steps old at ending places' busy' outcomes' there busy_is outcomes_are board =
      let is = there.ends.ends (terms.job at).verb (terms.password at) (life_of at steps)
      (board.places at there.place there.replaces.was) in
      record {
        legal = ((is.0, is.1.outcome_is), board.legal);
        count = ap length there.replaces.new_is ∙ length-set old.places at there.place'
            ∙ board.count;
        places = subst (λ (ps : List PlaceState).
            ArePlaces terms (ended at ending.outcome ∷ steps) ps)
            (sym there.replaces.new_is)
            (places_after terms steps (ended at ending.outcome) at old.places there.place
            there.place' board.places refl there.replaces.was
            (subst (λ (life : Life). IsPlace (terms.job at).verb (terms.password at) life
            there.place') (sym (life_ended at ending.outcome (life_of at steps))) is.2));
        found = board.found;
        marked = λ honest other marked. board.marked honest other
            (sym (mark_stays at other (ended at ending.outcome) (life_of other steps) refl)
            ∙ marked);
        busy = busy_is ∙ ap (λ (n : ℕ). n - 1) board.busy;
        limit = board.limit;
        before = board.before;
        before_count = board.before_count;
        outcomes = outcomes_are
            ∙ ap (λ (b : Bool). with_outcome b at ending.outcome old.outcomes) is.1.asked_is
            ∙ ap (λ (os : List PlaceOutcome).
            with_outcome (has_request (life_of at steps).given) at ending.outcome os)
            board.outcomes;
      }

  pub ends_board : (old : BoardState B) (at : ℕ) (ending : Ending) (places' : List PlaceState)
      (busy' : ℕ) (outcomes' : List PlaceOutcome) → EndsAt old.places at (Some ending) places'
      → busy' ≡ old.busy - 1
      → outcomes' ≡ with_outcome ending.was_asked at ending.outcome old.outcomes
      → Ends is_honest is_marked old at (Some ending.outcome)
      (record old { places = places'; busy = busy'; outcomes = outcomes' })
  ends_board old at ending places' busy' outcomes' (inl absent) busy_is outcomes_are = absurd cc
  ends_board old at ending places' busy' outcomes' (inr there) busy_is outcomes_are = record {
    ends = λ terms steps board. ends_there terms steps old at ending places' busy' outcomes' there
        busy_is outcomes_are board;
  }

  pub ends_nothing : (old : BoardState B) (at : ℕ) (places' : List PlaceState)
      → EndsAt old.places at None places'
      → Ends is_honest is_marked old at None (record old { places = places' })
  ends_nothing old at places' (inl absent) = record {
    ends = λ terms steps board. rw absent.0.same (
      board,
      λ within opened.
          not_there old.places terms.count at board.count within absent.0.absent,
    );
  }
  ends_nothing old at places' (inr there) = record {
    ends = λ terms steps board.
        let is = there.ends.ends (terms.job at).verb (terms.password at) (life_of at steps)
        (board.places at there.place there.replaces.was) in (
          replaced terms steps old at there.place there.place' places' board there.replaces is.0,
          λ within opened. is.1 opened,
        );
  }

  -- no connection is open
  pub ends_idle : (old : BoardState B) (at : ℕ) → old.busy ≡ 0
      → Ends is_honest is_marked old at None old
  ends_idle old at idle = record {
    ends = λ terms steps board. (
      board,
      λ within opened.
          let one = some_open terms.count at steps within (open_life (life_of at steps) opened) in
          let counted = (legal_safe terms steps board.legal).counted in
          let busy = board.busy in omega (arith, idle, one, counted, busy),
    );
  }

  -- ---- a commit

  due_marks : (terms : Terms) (steps : List Happening) (old : BoardState B) (marks : List ℕ)
      → IsBoard is_honest is_marked terms steps old → AreDueAt old.places marks
      → AreMarks terms steps marks
  due_marks terms steps old marks board due = λ at here.
      let is = due at here in
      is.says.says (terms.job at).verb (terms.password at) (life_of at steps)
      (board.places at is.place is.is) refl

  marked_by : (verb : Verb) (password : List ℕ) (life : Life) (here : Bool)
      (place place' : PlaceState) → (here ≡ true → IsOpen life)
      → place' ≡ (if here then cleared_place place else place)
      → IsPlace verb password life place
      → IsPlace verb password (if here then record life { is_marked = true } else life) place'
  marked_by verb password life true place place' opened cleared is =
      subst (λ (p : PlaceState). IsPlace verb password (record life { is_marked = true }) p)
      (sym cleared) (cleared_is verb password life place (opened refl) is)
  marked_by verb password life false place place' opened same is =
      subst (λ (p : PlaceState). IsPlace verb password life p) (sym same) is

  marked_before : (here : Bool) (life : Life) → here ≡ false
      → (if here then record life { is_marked = true } else life).is_marked ≡ true
      → life.is_marked ≡ true
  marked_before true life apart is = absurd cc
  marked_before false life apart is = is

  pub commits_ok : {A E : Type 0} (old : BoardState B) (marks : List ℕ) (x : A) (book' : B)
      (places' : List PlaceState) → AreDueAt old.places marks
      → (is_honest book' → is_honest old.book)
      → (is_honest book' → (place : ℕ) → has place marks ≡ true → is_marked book' place)
      → (is_honest book' → (place : ℕ) → is_marked old.book place → is_marked book' place)
      → ClearsMarked marks old.places places'
      → Commits is_honest is_marked {A = A} {E = E} old marks (Ok x)
      (record old { book = book'; places = places'; outcomes = [] })
  commits_ok old marks x book' places' due honest durable remains clears = record {
    commits = λ terms steps board.
        let are = due_marks terms steps old marks board due in record {
          legal = ((are, board.outcomes), board.legal);
          count = clears.count ∙ board.count;
          places = λ at place' got.
              let was = clears.each at place' got in
              marked_by (terms.job at).verb (terms.password at) (life_of at steps) (has at marks)
              was.0 place' (λ here. (are at here).is_open) was.2 (board.places at was.0 was.1);
          found = board.found;
          marked = λ trust at is. elim (cases_Bool (has at marks)) [
            | inl here ↦ durable trust at here
            | inr apart ↦ remains trust at (board.marked (honest trust) at
                (marked_before (has at marks) (life_of at steps) apart is))
          ];
          busy = board.busy;
          limit = board.limit;
          before = board.before;
          before_count = board.before_count;
          outcomes = refl;
        };
  }

  pub commits_err : {A E : Type 0} (old : BoardState B) (marks : List ℕ) (e : E) (book' : B)
      → (is_honest book' → is_honest old.book)
      → (is_honest book' → (place : ℕ) → is_marked old.book place → is_marked book' place)
      → Commits is_honest is_marked {A = A} old marks (Err e) (record old { book = book' })
  commits_err old marks e book' honest remains = record {
    commits = λ terms steps board. record {
      legal = board.legal;
      count = board.count;
      places = board.places;
      found = board.found;
      marked = λ trust at is. remains trust at (board.marked (honest trust) at is);
      busy = board.busy;
      limit = board.limit;
      before = board.before;
      before_count = board.before_count;
      outcomes = board.outcomes;
    };
  }

  -- ---- what a board says

  ending_by_of : (terms : Terms) (steps : List Happening) (board : BoardState B) (at : ℕ)
      (entry : LedgerEntry) (place : Option PlaceState)
      → IsBoard is_honest is_marked terms steps board → slice_get board.places at ≡ place
      → at < terms.count
      → ending_by entry place ≡ ending_at entry (terms.job at).verb (life_of at steps)
  ending_by_of terms steps board at NotSent None is got within =
      absurd (not_there board.places terms.count at is.count within got)
  ending_by_of terms steps board at NotSent (Some place) is got within =
      ending_in_of (terms.job at).verb (terms.password at) (life_of at steps) place.talk
      place.ending (is.places at place got)
  ending_by_of terms steps board at MaybeSent place is got within = refl
  ending_by_of terms steps board at (Came outcome) place is got within = refl

  pub tells_ending : (board : BoardState B) (at : ℕ) (result : Option Ending)
      → result ≡ ending_by (entry_at board.found at) (slice_get board.places at)
      → TellsEnding is_honest is_marked board at result
  tells_ending board at result is = record {
    told = λ terms steps has within. is
        ∙ ending_by_of terms steps board at (entry_at board.found at) (slice_get board.places at)
        has refl within
        ∙ ap (λ (e : LedgerEntry). ending_at e (terms.job at).verb (life_of at steps))
        (sym (has.found at));
  }

  settled_board : (board : BoardState B) → AreSettled board.found board.places
      → IsSettled is_honest is_marked board
  settled_board board are = record {
    settled = λ terms steps is at within fresh.
        over_at terms steps is at (slice_get board.places at) refl within
        (subst (λ (e : LedgerEntry). is_settled e (slice_get board.places at) ≡ true)
        (sym (is.found at) ∙ fresh)
        (are at (let count = is.count in omega (arith, count, within))));
  }
    where
      over_at : (terms : Terms) (steps : List Happening)
          → IsBoard is_honest is_marked terms steps board → (at : ℕ) (place : Option PlaceState)
          → slice_get board.places at ≡ place → at < terms.count
          → is_settled NotSent place ≡ true → (life_of at steps).is_over ≡ true
      over_at terms steps is at None got within settled = absurd cc
      over_at terms steps is at (Some place) got within settled =
          over_of (terms.job at).verb (terms.password at) (life_of at steps) place.talk
          place.ending settled (is.places at place got)

  pub settled_if : (result : Bool) (board : BoardState B)
      → OnTrue result (AreSettled board.found board.places)
      → OnTrue result (IsSettled is_honest is_marked board)
  settled_if true board are = settled_board board are
  settled_if false board are = are

  -- ---- a new board

  pub new_board : (jobs : List Job) (found : List LedgerEntry) (limit : ℕ) (book : B)
      (places : List PlaceState) (before : List (Option ℕ))
      → AreNew (length jobs) places → AreBeforeOf jobs found before
      → IsNewBoard is_honest is_marked jobs found limit (record {
        book = book;
        places = places;
        found = found;
        before = before;
        busy = 0;
        limit = limit;
        outcomes = [];
      })
  new_board jobs found limit book places before new are = record {
    is_new = λ terms is. record {
      legal = tt;
      count = new.count_is ∙ sym is.count_is;
      places = λ at place got. new_at terms at place (new.each at place got);
      found = is.found_are;
      marked = λ honest at marked. absurd cc;
      busy = refl;
      limit = sym is.limit_is;
      before = are.are terms limit is;
      before_count = are.count ∙ sym is.count_is;
      outcomes = refl;
    };
  }
    where
      new_at : (terms : Terms) (at : ℕ) (place : PlaceState)
          → (place.talk ≡ None) × (place.ending ≡ None)
          → IsPlace (terms.job at).verb (terms.password at) (life_of at []) place
      new_at terms at place none =
          subst (λ (t : Option Talk). IsPlaceOf (terms.job at).verb (terms.password at)
          (life_of at []) t place.ending) (sym none.0)
          (subst (λ (e : Option Ending). IsPlaceOf (terms.job at).verb (terms.password at)
          (life_of at []) None e) (sym none.1) (record {
            has_not_begun = refl;
            is_not_over = refl;
            no_bytes = refl;
            no_texts = refl;
            no_mark = refl;
          }))
