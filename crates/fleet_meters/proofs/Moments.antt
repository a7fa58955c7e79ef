-- What holds of a fleet at any moment.
use Rattle.std.proofs.Common.{◌≡◌, ◌≢◌, ℕ, ◌+◌, if◌then◌else◌, inl, inr, ◌⊎◌, List, [], ◌∷◌}
use Rattle.std.proofs.Common.{◌++◌, Option, Some, None, Ok, Err, refl, sym, ◌∙◌, ap, subst}
use Rattle.std.proofs.Common.{append_assoc, append-nil}
use Rattle.std.proofs.lemmas.Option.{none-some}
use Rattle.slab.specs.Slab.{get}
use Rattle.relay_recorder.specs.Histories.{Exchange}
use Rattle.embedded_meter.specs.MeterStates.{MeterState}
use Rattle.fleet_meters.specs.Clients.{ClientState}
use Rattle.fleet_meters.specs.Fleets.{FleetState, IsFleet, IsNewFleet}
use Rattle.fleet_meters.specs.Places.{Makes, meter_in}
use Rattle.fleet_meters.specs.Terms.{terms_at}
use Rattle.fleet_meters.specs.declared.terms.FleetTerms.{FleetTerms}
use Rattle.fleet_meters.specs.declared.terms.MeterTerms.{MeterTerms}
use Rattle.fleet_meters.specs.Calls.{FleetCall, admitted, ran, closed, missed, gave, CallsBy, Calls}
use Rattle.fleet_meters.specs.Calls.{told_there, told_at}
use Rattle.fleet_meters.specs.Law.{HoldsAlways, StayUnaddressed}
use Rattle.fleet_meters.specs.Lives.{ExtendsHistory}
use Rattle.fleet_meters.specs.Moments.{NoneOf, RunsOut, Addresses, AreWhole, IsMeterAfter}
use Rattle.fleet_meters.proofs.Histories.{extends_nothing, extends_more, extends_event}
use Rattle.fleet_meters.proofs.Histories.{history_call}
use Rattle.fleet_meters.proofs.CallLists.{told_on}
use Rattle.fleet_meters.proofs.Living.{HaveLived, lives_call}
use Rattle.fleet_meters.proofs.Served.{guarded_new}
use Rattle.fleet_meters.proofs.Sessions.{Was, IsNewly, AreWithin, fleet_new, fleet_call, from_call}
use Rattle.fleet_meters.proofs.Sessions.{within_new, within_call, at_most_eight}
use Rattle.fleet_meters.proofs.Steps.{by_number, refused, IsGuarded, guarded_call, same_terms}

-- ---- the meter at a place

-- the meter was there
meter_there : (terms : FleetTerms) (room : ℕ) (calls : List FleetCall) (f f' : FleetState)
    (call : FleetCall) (place : ℕ) (m : MeterState) → IsMeterAfter terms calls place (Some m)
    → CallsBy room f call f' → meter_in f.places place ≡ Some m
    → IsMeterAfter terms (calls ++ call ∷ []) place (meter_in f'.places place)
meter_there terms room calls f f' call place m after by is =
    let there = history_call room place call f f' m by is in
    subst (λ (o : Option MeterState). IsMeterAfter terms (calls ++ call ∷ []) place o)
    (sym there.is) (
      after.0,
      after.1,
      subst (λ (t : List Exchange). ExtendsHistory t after.0 there.meter)
          (sym (told_on place calls call))
          (extends_more after.0 m there.meter (told_at place calls) (told_there place call) after.2
          there.goes),
    )

-- the meter has not been made
still_none : (terms : FleetTerms) (calls : List FleetCall) (call : FleetCall) (place : ℕ)
    (o : Option MeterState) → told_at place calls ≡ [] → told_there place call ≡ [] → o ≡ None
    → IsMeterAfter terms (calls ++ call ∷ []) place o
still_none terms calls call place o none nothing is =
    subst (λ (x : Option MeterState). IsMeterAfter terms (calls ++ call ∷ []) place x) (sym is)
    (told_on place calls call
    ∙ ap (λ (t : List Exchange). t ++ told_there place call) none ∙ nothing)

-- the meter was made
now_made : (terms : FleetTerms) (calls : List FleetCall) (call : FleetCall) (place : ℕ)
    (o : Option MeterState) (before after : MeterState) → told_at place calls ≡ []
    → Makes (terms_at terms place) None before → o ≡ Some after
    → ExtendsHistory (told_there place call) before after
    → IsMeterAfter terms (calls ++ call ∷ []) place o
now_made terms calls call place o before after none makes is goes =
    subst (λ (x : Option MeterState). IsMeterAfter terms (calls ++ call ∷ []) place x) (sym is) (
      before,
      makes,
      subst (λ (t : List Exchange). ExtendsHistory t before after)
          (sym (told_on place calls call
          ∙ ap (λ (t : List Exchange). t ++ told_there place call) none)) goes,
    )

makes_there : (terms terms' : FleetTerms) (at place : ℕ) (o : Option MeterState) (m : MeterState)
    → terms ≡ terms' → at ≡ place → o ≡ None → Makes (terms_at terms at) o m
    → Makes (terms_at terms' place) None m
makes_there terms terms' at place o m same here none makes =
    subst (λ (t : MeterTerms). Makes t None m)
    (ap (λ (t : FleetTerms). terms_at t at) same
    ∙ ap (λ (p : ℕ). terms_at terms' p) here)
    (subst (λ (x : Option MeterState). Makes (terms_at terms at) x m) none makes)

-- the meter had not been made
meter_absent : (terms : FleetTerms) (room : ℕ) (calls : List FleetCall) (f f' : FleetState)
    (call : FleetCall) (place : ℕ) → f.terms ≡ terms → told_at place calls ≡ []
    → CallsBy room f call f' → meter_in f.places place ≡ None
    → IsMeterAfter terms (calls ++ call ∷ []) place (meter_in f'.places place)
meter_absent terms room calls f f' (admitted number stream (Ok key)) place same none by is =
    let seats = by.2.seats in
    by_number by.0 place
    (λ e _. now_made terms calls (admitted number stream (Ok key)) place (meter_in f'.places place)
    seats.before seats.after none
    (makes_there f.terms terms by.0 place (meter_in f.places by.0) seats.before same e
    (ap (λ (p : ℕ). meter_in f.places p) e ∙ is) seats.makes)
    (ap (λ (p : ℕ). meter_in f'.places p) (sym e) ∙ seats.is)
    (extends_nothing seats.before seats.after seats.opens.recorder))
    (λ far _. still_none terms calls (admitted number stream (Ok key)) place
    (meter_in f'.places place) none refl (by.2.stay.places place (λ e. far (sym e)) ∙ is))
meter_absent terms room calls f f' (admitted number stream (Err why)) place same none by is =
    let unchanged = refused f f' number stream why by in
    still_none terms calls (admitted number stream (Err why)) place (meter_in f'.places place) none
    refl (ap (λ (ps : List (Option MeterState)). meter_in ps place) unchanged.places ∙ is)
meter_absent terms room calls f f' (ran key at turn told) place same none by is =
    let runs = by.runs in
    by_number at place
    (λ e _. absurd (none-some runs.turns.before
    (sym is ∙ ap (λ (p : ℕ). meter_in f.places p) (sym (by.at ∙ e)) ∙ runs.turns.was)))
    (λ far e'. still_none terms calls (ran key at turn told) place (meter_in f'.places place) none
    (ap (λ (b : _). if b then told else []) e')
    (runs.stay.places place (λ e. far (sym (e ∙ by.at))) ∙ is))
meter_absent terms room calls f f' (closed key) place same none by is =
    let releases = by.1 in
    by_number releases.client.place place
    (λ e _. absurd (none-some releases.frees.before
    (sym is ∙ ap (λ (p : ℕ). meter_in f.places p) (sym e) ∙ releases.frees.was)))
    (λ far _. still_none terms calls (closed key) place (meter_in f'.places place) none refl
    (releases.stay.places place (λ e. far (sym e)) ∙ is))
meter_absent terms room calls f f' (missed key) place same none by is =
    still_none terms calls (missed key) place (meter_in f'.places place) none refl
    (ap (λ (x : FleetState). meter_in x.places place) by.1 ∙ is)
meter_absent terms room calls f f' (gave at event reply) place same none by is = by_number at place
    (λ e e'. now_made terms calls (gave at event reply) place (meter_in f'.places place)
    by.gives.before by.gives.after none
    (makes_there f.terms terms at place (meter_in f.places at) by.gives.before same e
    (ap (λ (p : ℕ). meter_in f.places p) e ∙ is) by.gives.makes)
    (ap (λ (p : ℕ). meter_in f'.places p) (sym e) ∙ by.gives.is)
    (subst (λ (t : List Exchange). ExtendsHistory t by.gives.before by.gives.after)
    (sym (ap (λ (b : _). if b then (event, reply) ∷ [] else []) e'))
    (extends_event by.gives.before by.gives.after event reply by.gives.takes)))
    (λ far e'. still_none terms calls (gave at event reply) place (meter_in f'.places place) none
    (ap (λ (b : _). if b then (event, reply) ∷ [] else []) e')
    (by.stay.places place (λ e. far (sym e)) ∙ is))

meter_either : (terms : FleetTerms) (room : ℕ) (calls : List FleetCall) (f f' : FleetState)
    (call : FleetCall) (place : ℕ) (o : Option MeterState) → f.terms ≡ terms
    → IsMeterAfter terms calls place o → CallsBy room f call f' → meter_in f.places place ≡ o
    → IsMeterAfter terms (calls ++ call ∷ []) place (meter_in f'.places place)
meter_either terms room calls f f' call place None same after by is =
    meter_absent terms room calls f f' call place same after by is
meter_either terms room calls f f' call place (Some m) same after by is =
    meter_there terms room calls f f' call place m after by is

-- ---- a meter that no call is for

apart_there : (place : ℕ) (f : FleetState) (call : FleetCall) (key : ℕ) (c : ClientState)
    → ((k : ℕ) (d : ClientState) → get f.clients k ≡ Some d → d.place ≢ place)
    → (¬ (Addresses place call)) → Was f key c ⊎ IsNewly call c → c.place ≢ place
apart_there place f call key c apart never (inl was) e =
    apart key was.client was.is (sym was.place ∙ e)
apart_there place f call key c apart never (inr new) e =
    never (subst (λ (p : ℕ). Addresses p call) e new.asked)

unaddressed_call : (room place : ℕ) (call : FleetCall) (f f' : FleetState)
    → CallsBy room f call f'
    → ((key : ℕ) (c : ClientState) → get f.clients key ≡ Some c → c.place ≢ place)
    → (¬ (Addresses place call)) → meter_in f'.places place ≡ meter_in f.places place
unaddressed_call room place (admitted number stream (Ok key)) f f' by apart never =
    by.2.stay.places place (λ e. never (by.1 ∙ ap (λ (p : ℕ). p + 1) (sym e)))
unaddressed_call room place (admitted number stream (Err why)) f f' by apart never =
    let same = refused f f' number stream why by in
    ap (λ (ps : List (Option MeterState)). meter_in ps place) same.places
unaddressed_call room place (ran key at turn told) f f' by apart never =
    by.runs.stay.places place (λ e. apart key by.runs.before by.runs.was (sym e))
unaddressed_call room place (closed key) f f' by apart never =
    by.1.stay.places place (λ e. apart key by.1.client by.1.was (sym e))
unaddressed_call room place (missed key) f f' by apart never =
    ap (λ (x : FleetState). meter_in x.places place) by.1
unaddressed_call room place (gave at event reply) f f' by apart never =
    by.stay.places place (λ e. never (sym e))

pub stay_unaddressed : StayUnaddressed
stay_unaddressed room place [] old new by apart none =
    ap (λ (x : FleetState). meter_in x.places place) by
stay_unaddressed room place (call ∷ calls) old new by apart none =
    stay_unaddressed room place calls by.0 new by.2
    (λ key c at. apart_there place old call key c apart none.0
    (from_call room old by.0 call by.1 key c at)) none.1
    ∙ unaddressed_call room place call old by.0 by.1 apart none.0

-- ---- all that holds after a call

-- what each call keeps
pub record Kept (terms : FleetTerms) (calls : List FleetCall) (f : FleetState) : Type 0 where
  pub terms_are : f.terms ≡ terms
  pub guarded : IsGuarded f
  pub fleet : IsFleet f
  pub within : AreWithin f
  pub connections : HaveLived terms calls f
  pub meters : (place : ℕ) → IsMeterAfter terms calls place (meter_in f.places place)

pub kept_new : (terms : FleetTerms) (count : ℕ) (f : FleetState) → IsNewFleet terms count f
    → Kept terms [] f
kept_new terms count f new = record {
  terms_are = new.terms_are;
  guarded = guarded_new terms count f new;
  fleet = fleet_new terms count f new;
  within = within_new terms count f new;
  connections = λ key c at. absurd (none-some c (sym (new.unused key) ∙ at));
  meters = λ place.
      subst (λ (o : Option MeterState). IsMeterAfter terms [] place o) (sym (new.unmade place))
      refl;
}

pub kept_call : (terms : FleetTerms) (room : ℕ) (calls : List FleetCall) (f f' : FleetState)
    (call : FleetCall) → Kept terms calls f → CallsBy room f call f'
    → Kept terms (calls ++ call ∷ []) f'
kept_call terms room calls f f' call kept by = record {
  terms_are = same_terms room f f' call by ∙ kept.terms_are;
  guarded = guarded_call room f f' call kept.guarded by;
  fleet = fleet_call room f f' call kept.fleet by;
  within = within_call room f f' call kept.within by;
  connections = λ key c at.
      let there = lives_call terms room calls f f' call kept.guarded kept.terms_are kept.connections
      by key c at in
      there.lived;
  meters = λ place. meter_either terms room calls f f' call place (meter_in f.places place)
      kept.terms_are (kept.meters place) by refl;
}

pub kept_calls : (terms : FleetTerms) (room : ℕ) (calls more : List FleetCall) (f f' : FleetState)
    → Kept terms calls f → Calls room f more f' → Kept terms (calls ++ more) f'
kept_calls terms room calls [] f f' kept by =
    subst (λ (cs : List FleetCall). Kept terms cs f') (sym (append-nil calls))
    (subst (λ (x : FleetState). Kept terms calls x) (sym by) kept)
kept_calls terms room calls (call ∷ more) f f' kept by =
    subst (λ (cs : List FleetCall). Kept terms cs f') (append_assoc calls (call ∷ []) more)
    (kept_calls terms room (calls ++ call ∷ []) more by.0 f'
    (kept_call terms room calls f by.0 call kept by.1) by.2)

pub holds_always : HoldsAlways
holds_always terms room count calls first now new by =
    let kept = kept_calls terms room [] calls first now (kept_new terms count first new) by in
    record {
      connections = kept.connections;
      separate = kept.fleet;
      eight = at_most_eight now kept.fleet kept.within;
      meters = kept.meters;
      untouched = λ place none.
          stay_unaddressed room place calls first now by
          (λ key c at. absurd (none-some c (sym (new.unused key) ∙ at))) none
          ∙ new.unmade place;
    }

-- ---- connections that have lost nothing

-- memory ran out in no turn of a connection that is open, but those with lost keys
pub record WholeBut (Lost : ℕ → Type 0) (terms : FleetTerms) (calls : List FleetCall)
    (f : FleetState) : Type 0 where
  pub kept : Kept terms calls f
  pub lives : HaveLived terms calls f
  pub whole : (key : ℕ) (c : ClientState) (at : get f.clients key ≡ Some c)
      → (¬ (Lost key)) → NoneOf (RunsOut key) (lives key c at).since

pub whole_call : (Lost : ℕ → Type 0) (terms : FleetTerms) (room : ℕ) (calls : List FleetCall)
    (f f' : FleetState) (call : FleetCall) → WholeBut Lost terms calls f → CallsBy room f call f'
    → WholeBut (λ key. Lost key ⊎ RunsOut key call) terms (calls ++ call ∷ []) f'
whole_call Lost terms room calls f f' call but by = record {
  kept = kept_call terms room calls f f' call but.kept by;
  lives = λ key c at. (lives_call terms room calls f f' call but.kept.guarded but.kept.terms_are
      but.lives by key c at).lived;
  whole = λ key c at never. (lives_call terms room calls f f' call but.kept.guarded
      but.kept.terms_are but.lives by key c at).whole
      (λ d was. but.whole key d was (λ lost. never (inl lost)), λ out. never (inr out));
}

-- what is lost is not open
pub whole_again : (Lost : ℕ → Type 0) (terms : FleetTerms) (calls : List FleetCall)
    (f : FleetState) → WholeBut Lost terms calls f
    → ((key : ℕ) (c : ClientState) → get f.clients key ≡ Some c → ¬ (Lost key))
    → WholeBut (λ _. ⊥) terms calls f
whole_again Lost terms calls f but open_ = record {
  kept = but.kept;
  lives = but.lives;
  whole = λ key c at _. but.whole key c at (open_ key c at);
}

pub whole_new : (terms : FleetTerms) (count : ℕ) (f : FleetState) → IsNewFleet terms count f
    → WholeBut (λ _. ⊥) terms [] f
whole_new terms count f new = record {
  kept = kept_new terms count f new;
  lives = λ key c at. absurd (none-some c (sym (new.unused key) ∙ at));
  whole = λ key c at _. absurd (none-some c (sym (new.unused key) ∙ at));
}

-- calls in which memory does not run out
pub whole_calls : (terms : FleetTerms) (room : ℕ) (calls more : List FleetCall)
    (f f' : FleetState) → WholeBut (λ _. ⊥) terms calls f → Calls room f more f'
    → ((key : ℕ) → NoneOf (RunsOut key) more) → WholeBut (λ _. ⊥) terms (calls ++ more) f'
whole_calls terms room calls [] f f' but by none =
    subst (λ (cs : List FleetCall). WholeBut (λ _. ⊥) terms cs f') (sym (append-nil calls))
    (subst (λ (x : FleetState). WholeBut (λ _. ⊥) terms calls x) (sym by) but)
whole_calls terms room calls (call ∷ more) f f' but by none =
    subst (λ (cs : List FleetCall). WholeBut (λ _. ⊥) terms cs f')
    (append_assoc calls (call ∷ []) more)
    (whole_calls terms room (calls ++ call ∷ []) more by.0 f'
    (whole_again (λ key. ⊥ ⊎ RunsOut key call) terms (calls ++ call ∷ []) by.0
    (whole_call (λ _. ⊥) terms room calls f by.0 call but by.1)
    (λ key c at lost. lost_not key call (λ k. (none k).0) lost)) by.2
    (λ key. (none key).1))
  where
    lost_not : (key : ℕ) (c : FleetCall) → ((k : ℕ) → ¬ (RunsOut k c)) → ¬ (⊥ ⊎ RunsOut key c)
    lost_not key c never (inl lost) = lost
    lost_not key c never (inr out) = never key out

pub are_whole : (terms : FleetTerms) (calls : List FleetCall) (f : FleetState)
    → WholeBut (λ _. ⊥) terms calls f → AreWhole terms calls f
are_whole terms calls f but key c at = (but.lives key c at, but.whole key c at (λ never. never))
