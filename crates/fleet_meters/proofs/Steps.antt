-- What the calls of a fleet leave as it was.
use Rattle.std.proofs.Common.{◌≡◌, ◌≢◌, ℕ, ◌==◌, true, false, inl, inr, List, [], ◌∷◌, ◌++◌, Option}
use Rattle.std.proofs.Common.{Some, None, Ok, Err, refl, sym, ◌∙◌, ap, subst}
use Rattle.std.proofs.lemmas.Bool.Decides.{eqb_tells}
use Rattle.std.proofs.lemmas.Option.{same_Some}
use Rattle.embedded_meter.specs.MeterStates.{MeterState}
use Rattle.fleet_links.specs.Streams.{StreamState}
use Rattle.fleet_meters.specs.Fleets.{FleetState, AdmitsBy, Unchanged, MetersStay}
use Rattle.fleet_meters.specs.Places.{Makes, meter_in}
use Rattle.fleet_meters.specs.declared.place.Refusal.{Refusal}
use Rattle.fleet_meters.specs.declared.place.Refusal.TheVariants.{NoMeter, Full, Memory}
use Rattle.fleet_meters.specs.Terms.{terms_at}
use Rattle.fleet_meters.specs.declared.terms.FleetTerms.{FleetTerms}
use Rattle.fleet_meters.specs.Calls.{FleetCall, admitted, ran, closed, missed, gave, CallsBy, Calls}
use Rattle.fleet_meters.specs.Calls.{AreGiven, GivesEvents}

-- either two numbers are the same, or they differ
pub by_number : {X : Type 0} (a b : ℕ) → (a ≡ b → (a == b) ≡ true → X)
    → (a ≢ b → (a == b) ≡ false → X) → X
by_number a b same far = elim (eqb_tells a b) [
  | inl e ↦ same e.1 e.0
  | inr e ↦ far e.1 e.0
]

-- a refusal changes nothing
pub refused : (old new : FleetState) (number : ℕ) (stream : StreamState) (why : Refusal)
    → AdmitsBy old number stream (Err why) new → Unchanged old new
refused old new number stream NoMeter admits = admits.1
refused old new number stream Full admits = admits.1
refused old new number stream Memory admits = admits

-- ---- the password of the meters

-- each meter has the password of its terms
pub record IsGuarded (f : FleetState) : Type 0 where
  pub passwords : (place : ℕ) (m : MeterState) → meter_in f.places place ≡ Some m
      → m.password ≡ (terms_at f.terms place).password

-- the meter at one place changed, and keeps the password
guarded_on : (old new : FleetState) (place : ℕ) (m : MeterState) → IsGuarded old
    → MetersStay old place new → meter_in new.places place ≡ Some m
    → m.password ≡ (terms_at old.terms place).password → IsGuarded new
guarded_on old new place m guarded stay is password = record {
  passwords = λ other n at. by_number other place
      (λ e _. ap (λ (q : MeterState). q.password)
      (same_Some n m (sym at ∙ ap (λ (p : ℕ). meter_in new.places p) e ∙ is))
      ∙ password ∙ ap (λ (t : FleetTerms). (terms_at t place).password) (sym stay.terms)
      ∙ ap (λ (p : ℕ). (terms_at new.terms p).password) (sym e))
      (λ far _. guarded.passwords other n (sym (stay.places other far) ∙ at)
      ∙ ap (λ (t : FleetTerms). (terms_at t other).password) (sym stay.terms));
}

guarded_same : (old new : FleetState) → IsGuarded old → new.terms ≡ old.terms
    → new.places ≡ old.places → IsGuarded new
guarded_same old new guarded terms places = record {
  passwords = λ place m at.
      guarded.passwords place m
      (ap (λ (ps : List (Option MeterState)). meter_in ps place) (sym places) ∙ at)
      ∙ ap (λ (t : FleetTerms). (terms_at t place).password) (sym terms);
}

-- the meter whose session is opened has the password of its terms
pub made_guarded : (f : FleetState) (o : Option MeterState) (place : ℕ) (m : MeterState)
    → IsGuarded f → meter_in f.places place ≡ o → Makes (terms_at f.terms place) o m
    → m.password ≡ (terms_at f.terms place).password
made_guarded f None place m guarded at makes = makes.guarded
made_guarded f (Some n) place m guarded at makes =
    ap (λ (q : MeterState). q.password) makes ∙ guarded.passwords place n at

pub guarded_call : (room : ℕ) (old new : FleetState) (call : FleetCall) → IsGuarded old
    → CallsBy room old call new → IsGuarded new
guarded_call room old new (admitted number stream (Ok key)) guarded by =
    let place = by.0 in
    let seats = by.2.seats in
    guarded_on old new place seats.after guarded by.2.stay seats.is
    (seats.opens.stay.password
    ∙ made_guarded old (meter_in old.places place) place seats.before guarded refl seats.makes)
guarded_call room old new (admitted number stream (Err why)) guarded by =
    let same = refused old new number stream why by in
    guarded_same old new guarded same.terms same.places
guarded_call room old new (ran key place turn told) guarded by =
    let runs = by.runs in
    guarded_on old new runs.before.place runs.turns.after guarded runs.stay runs.turns.is
    (runs.turns.turns.turns.serves.stay.password
    ∙ guarded.passwords runs.before.place runs.turns.before runs.turns.was)
guarded_call room old new (closed key) guarded by =
    let releases = by.1 in
    guarded_on old new releases.client.place releases.frees.after guarded releases.stay
    releases.frees.is
    (releases.frees.closes.stay.password
    ∙ guarded.passwords releases.client.place releases.frees.before releases.frees.was)
guarded_call room old new (missed key) guarded by =
    guarded_same old new guarded (ap (λ (f : FleetState). f.terms) by.1)
    (ap (λ (f : FleetState). f.places) by.1)
guarded_call room old new (gave place event reply) guarded by =
    guarded_on old new place by.gives.after guarded by.stay by.gives.is
    (by.gives.takes.password
    ∙ made_guarded old (meter_in old.places place) place by.gives.before guarded refl
    by.gives.makes)

pub guarded_calls : (room : ℕ) (old new : FleetState) (calls : List FleetCall) → IsGuarded old
    → Calls room old calls new → IsGuarded new
guarded_calls room old new [] guarded by =
    guarded_same old new guarded (ap (λ (f : FleetState). f.terms) by)
    (ap (λ (f : FleetState). f.places) by)
guarded_calls room old new (call ∷ calls) guarded by =
    guarded_calls room by.0 new calls (guarded_call room old by.0 call guarded by.1) by.2

-- ---- the terms

pub same_terms : (room : ℕ) (old new : FleetState) (call : FleetCall) → CallsBy room old call new
    → new.terms ≡ old.terms
same_terms room old new (admitted number stream (Ok key)) by = by.2.stay.terms
same_terms room old new (admitted number stream (Err why)) by =
    let same = refused old new number stream why by in
    same.terms
same_terms room old new (ran key place turn told) by = by.runs.stay.terms
same_terms room old new (closed key) by = by.1.stay.terms
same_terms room old new (missed key) by = ap (λ (f : FleetState). f.terms) by.1
same_terms room old new (gave place event reply) by = by.stay.terms

pub terms_kept : (room : ℕ) (old new : FleetState) (calls : List FleetCall)
    → Calls room old calls new → new.terms ≡ old.terms
terms_kept room old new [] by = ap (λ (f : FleetState). f.terms) by
terms_kept room old new (call ∷ calls) by =
    terms_kept room by.0 new calls by.2 ∙ same_terms room old by.0 call by.1

-- ---- several calls

-- some calls, followed by others
pub calls_on : (room : ℕ) (calls calls' : List FleetCall) (f f' f'' : FleetState)
    → Calls room f calls f' → Calls room f' calls' f'' → Calls room f (calls ++ calls') f''
calls_on room [] calls' f f' f'' first then_ =
    subst (λ (x : FleetState). Calls room x calls' f'') first then_
calls_on room (call ∷ calls) calls' f f' f'' first then_ = (
  first.0,
  first.1,
  calls_on room calls calls' first.0 f' f'' first.2 then_,
)

-- the fleet between some calls and others
pub calls_split : (room : ℕ) (calls calls' : List FleetCall) (f f'' : FleetState)
    → Calls room f (calls ++ calls') f''
    → (f' : FleetState) × Calls room f calls f' × Calls room f' calls' f''
calls_split room [] calls' f f'' by = (f, refl, by)
calls_split room (call ∷ calls) calls' f f'' by =
    let rest = calls_split room calls calls' by.0 f'' by.2 in
    (rest.0, (by.0, by.1, rest.1), rest.2)

-- ---- events

-- nothing was done
pub gives_nothing : (f f' : FleetState) → f' ≡ f → GivesEvents f f'
gives_nothing f f' same = record { calls = []; given = tt; leads = λ room. same }

all_given : (calls calls' : List FleetCall) → AreGiven calls → AreGiven calls'
    → AreGiven (calls ++ calls')
all_given [] calls' first then_ = then_
all_given (gave place event reply ∷ calls) calls' first then_ =
    all_given calls calls' first then_
all_given (admitted number stream result ∷ calls) calls' first then_ = absurd first
all_given (ran key place turn told ∷ calls) calls' first then_ = absurd first
all_given (closed key ∷ calls) calls' first then_ = absurd first
all_given (missed key ∷ calls) calls' first then_ = absurd first

-- events were given, and then others
pub gives_more : (f f' f'' : FleetState) → GivesEvents f f' → GivesEvents f' f''
    → GivesEvents f f''
gives_more f f' f'' first then_ = record {
  calls = first.calls ++ then_.calls;
  given = all_given first.calls then_.calls first.given then_.given;
  leads = λ room. calls_on room first.calls then_.calls f f' f'' (first.leads room)
      (then_.leads room);
}
