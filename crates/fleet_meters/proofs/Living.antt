-- An open connection after one more call.
use Rattle.std.proofs.Common.{◌≡◌, ℕ, ◌+◌, if◌then◌else◌, List, [], ◌∷◌, ◌++◌, Option}
use Rattle.std.proofs.Common.{Some, None, Ok, Err, refl, sym, ◌∙◌, ap, subst, append-nil}
use Rattle.std.proofs.lemmas.Option.{same_Some, none-some}
use Rattle.slab.specs.Slab.{Slab, get}
use Rattle.relay_recorder.specs.Histories.{Exchange}
use Rattle.fleet_links.specs.Streams.{StreamState}
use Rattle.fleet_links.specs.declared.link.Turn.{Turn}
use Rattle.fleet_links.specs.declared.link.Turn.TheVariants.{Waits}
use Rattle.fleet_meters.specs.Clients.{ClientState}
use Rattle.fleet_meters.specs.Fleets.{FleetState, Admits}
use Rattle.fleet_meters.specs.Terms.{terms_at, terms_of}
use Rattle.fleet_meters.specs.declared.terms.FleetTerms.{FleetTerms}
use Rattle.fleet_meters.specs.declared.terms.MeterTerms.{MeterTerms}
use Rattle.fleet_meters.specs.Calls.{FleetCall, admitted, ran, closed, missed, gave, RunsAt}
use Rattle.fleet_meters.specs.Calls.{CallsBy, told_in, exchanges_at}
use Rattle.fleet_meters.specs.Lives.{IsServed, HasAnswered}
use Rattle.fleet_meters.specs.Moments.{NoneOf, IsClosing, RunsOut, RunsElsewhere, turn_after}
use Rattle.fleet_meters.specs.Moments.{last_turn}
use Rattle.fleet_meters.specs.Moments.{HasLived}
use Rattle.fleet_meters.proofs.CallLists.{none_on, none_before, none_last, exchanges_on, last_on}
use Rattle.fleet_meters.proofs.CallLists.{split_on}
use Rattle.fleet_meters.proofs.CallLists.{not_end}
use Rattle.fleet_meters.proofs.Served.{served_call, served_new, waited}
use Rattle.fleet_meters.proofs.Steps.{by_number, refused, IsGuarded}

-- an open connection has lived, and if this holds, memory never ran out in its turns
pub record Lived (terms : FleetTerms) (calls : List FleetCall) (now : FleetState) (key : ℕ)
    (c : ClientState) (Whole : Type 0) : Type 0 where
  pub lived : HasLived terms calls now key c
  pub whole : Whole → NoneOf (RunsOut key) lived.since

-- after a call that waited with nothing pending, or after which it is so still, the answers are
-- those to all that was read
abbrev KeepsAnswers : ℕ → FleetCall → FleetState → ClientState → ClientState → Type 0
KeepsAnswers key call f c c' = (password : List ℕ) (origin : StreamState) (told : List Exchange)
    (last : Option Turn) → IsServed password origin told f key
    → (last ≡ Some Waits → c.pending ≡ [] → HasAnswered password origin told c.stream)
    → turn_after key last call ≡ Some Waits → c'.pending ≡ []
    → HasAnswered password origin (told ++ told_in key call) c'.stream

lived_on : (terms : FleetTerms) (room : ℕ) (calls : List FleetCall) (f f' : FleetState) (key : ℕ)
    (call : FleetCall) (c c' : ClientState) → (lived : HasLived terms calls f key c)
    → CallsBy room f call f' → (¬ (IsClosing key call)) → (¬ (RunsElsewhere key c.place call))
    → c'.place ≡ c.place → KeepsAnswers key call f c c'
    → Lived terms (calls ++ call ∷ []) f' key c'
    (NoneOf (RunsOut key) lived.since × (¬ (RunsOut key call)))
lived_on terms room calls f f' key call c c' lived by stays home place keeps = record {
  lived = record {
    number = lived.number;
    origin = lived.origin;
    earlier = lived.earlier;
    since = lived.since ++ call ∷ [];
    split = split_on calls lived.earlier lived.since (admitted lived.number lived.origin (Ok key))
        call lived.split;
    its_meter = lived.its_meter ∙ ap (λ (p : ℕ). p + 1) (sym place);
    open_since = none_on (IsClosing key) lived.since call lived.open_since stays;
    at_home = subst (λ (p : ℕ). NoneOf (RunsElsewhere key p) (lived.since ++ call ∷ []))
        (sym place)
        (none_on (RunsElsewhere key c.place) lived.since call lived.at_home home);
    frames = λ none.
        subst (λ (t : List Exchange). IsServed password lived.origin t f' key)
        (sym (exchanges_on key lived.since call))
        (served_call password lived.origin (exchanges_at key lived.since) room key call f f'
        (not_end key call stays (none_last (RunsOut key) lived.since call none)) by
        (lived.frames (none_before (RunsOut key) lived.since call none)));
    answers = λ none last pending.
        let before = none_before (RunsOut key) lived.since call none in
        subst (λ (t : List Exchange). HasAnswered password lived.origin t c'.stream)
        (sym (exchanges_on key lived.since call))
        (keeps password lived.origin (exchanges_at key lived.since)
        (last_turn key None lived.since) (lived.frames before) (lived.answers before)
        (sym (last_on key None lived.since call) ∙ last) pending);
  };
  whole = λ w. none_on (RunsOut key) lived.since call w.0 w.1;
}
  where
    password : List ℕ
    password = (terms_of terms lived.number).password

-- another connection, or none, did something
keeps_other : (key : ℕ) (call : FleetCall) (f : FleetState) (c : ClientState)
    → told_in key call ≡ [] → ((last : Option Turn) → turn_after key last call ≡ last)
    → KeepsAnswers key call f c c
keeps_other key call f c nothing same password origin told last served answers is pending =
    subst (λ (t : List Exchange). HasAnswered password origin t c.stream)
    (sym (ap (λ (t : List Exchange). told ++ t) nothing ∙ append-nil told))
    (answers (sym (same last) ∙ is) pending)

lived_other : (terms : FleetTerms) (room : ℕ) (calls : List FleetCall) (f f' : FleetState)
    (key : ℕ) (call : FleetCall) (c : ClientState) → (lived : HasLived terms calls f key c)
    → CallsBy room f call f' → (¬ (IsClosing key call)) → (¬ (RunsElsewhere key c.place call))
    → told_in key call ≡ [] → ((last : Option Turn) → turn_after key last call ≡ last)
    → Lived terms (calls ++ call ∷ []) f' key c
    (NoneOf (RunsOut key) lived.since × (¬ (RunsOut key call)))
lived_other terms room calls f f' key call c lived by stays home nothing same =
    lived_on terms room calls f f' key call c c lived by stays home refl
    (keeps_other key call f c nothing same)

-- the connection ran
keeps_ran : (room : ℕ) (f f' : FleetState) (key place : ℕ) (turn : Turn) (told : List Exchange)
    (c c' : ClientState) → RunsAt room f key place turn told f' → get f'.clients key ≡ Some c'
    → KeepsAnswers key (ran key place turn told) f c c'
keeps_ran room f f' key place turn told c c' by at password origin before last served answers is
    pending = by_number key key
    (λ _ e. subst (λ (t : List Exchange). HasAnswered password origin (before ++ t) c'.stream)
    (sym (ap (λ (b : _). if b then told else []) e))
    (waited password origin before told room f f' key place c'
    (subst (λ (t : Turn). RunsAt room f key place t told f')
    (same_Some turn Waits (sym (ap (λ (b : _). if b then Some turn else last) e) ∙ is)) by)
    served at pending))
    (λ far _. absurd (far refl))

-- the connection is new
lived_new : (terms : FleetTerms) (calls : List FleetCall) (f f' : FleetState)
    (number key place : ℕ) (origin : StreamState) (c : ClientState) → IsGuarded f
    → f.terms ≡ terms → number ≡ place + 1 → Admits f place origin key f'
    → get f'.clients key ≡ Some c
    → Lived terms (calls ++ admitted number origin (Ok key) ∷ []) f' key c Unit
lived_new terms calls f f' number key place origin c guarded same is admits at = record {
  lived = record {
    number = number;
    origin = origin;
    earlier = calls;
    since = [];
    split = refl;
    its_meter = is ∙ ap (λ (x : ClientState). x.place + 1)
        (same_Some
        (record { place = place; number = admits.number; stream = origin; pending = [] }) c
        (sym admits.client ∙ at));
    open_since = tt;
    at_home = tt;
    frames = λ _. subst (λ (t : MeterTerms). IsServed t.password origin [] f' key)
        (ap (λ (t : FleetTerms). terms_at t place) same
        ∙ ap (λ (n : ℕ). terms_of terms n) (sym is))
        (served_new f f' place key origin guarded admits);
    answers = λ _ last _. absurd (none-some Waits last);
  };
  whole = λ _. tt;
}

-- ---- any connection after a call

-- what was known of the connections before a call
abbrev pub HaveLived : FleetTerms → List FleetCall → FleetState → Type 0
HaveLived terms calls f = (key : ℕ) (c : ClientState) → get f.clients key ≡ Some c
    → HasLived terms calls f key c

-- whether memory ran out neither before a call, in a turn of the connection with this key, nor in
-- the call
abbrev pub StaysWhole : (terms : FleetTerms) (calls : List FleetCall) (f : FleetState)
    → HaveLived terms calls f → ℕ → FleetCall → Type 0
StaysWhole terms calls f lives key call =
    ((c : ClientState) (at : get f.clients key ≡ Some c)
    → NoneOf (RunsOut key) (lives key c at).since) × (¬ (RunsOut key call))

-- a connection that was there before, and did nothing
stays_lived : (terms : FleetTerms) (room : ℕ) (calls : List FleetCall) (f f' : FleetState)
    (call : FleetCall) (lives : HaveLived terms calls f) → CallsBy room f call f' → (key : ℕ)
    (c : ClientState) → get f.clients key ≡ Some c → (¬ (IsClosing key call))
    → ((place : ℕ) → ¬ (RunsElsewhere key place call)) → told_in key call ≡ []
    → ((last : Option Turn) → turn_after key last call ≡ last)
    → Lived terms (calls ++ call ∷ []) f' key c (StaysWhole terms calls f lives key call)
stays_lived terms room calls f f' call lives by key c at stays home nothing same =
    let on = lived_other terms room calls f f' key call c (lives key c at) by stays (home c.place)
    nothing same in
    record { lived = on.lived; whole = λ w. on.whole (w.0 c at, w.1) }

-- the connection ran
ran_here : (terms : FleetTerms) (room : ℕ) (calls : List FleetCall) (f f' : FleetState)
    (key place : ℕ) (turn : Turn) (told : List Exchange) (lives : HaveLived terms calls f)
    → RunsAt room f key place turn told f' → (c : ClientState) → get f'.clients key ≡ Some c
    → Lived terms (calls ++ ran key place turn told ∷ []) f' key c
    (StaysWhole terms calls f lives key (ran key place turn told))
ran_here terms room calls f f' key place turn told lives by c at =
    let before = by.runs.before in
    let on = lived_on terms room calls f f' key (ran key place turn told) before c
    (lives key before by.runs.was) by (λ never. never)
    (λ elsewhere. elsewhere.1 (sym by.at))
    (ap (λ (x : ClientState). x.place) (same_Some c by.runs.after (sym at ∙ by.runs.is))
    ∙ by.runs.turns.turns.place)
    (keeps_ran room f f' key place turn told before c by at) in
    record { lived = on.lived; whole = λ w. on.whole (w.0 before by.runs.was, w.1) }

pub lives_call : (terms : FleetTerms) (room : ℕ) (calls : List FleetCall) (f f' : FleetState)
    (call : FleetCall) → IsGuarded f → f.terms ≡ terms → (lives : HaveLived terms calls f)
    → CallsBy room f call f' → (key : ℕ) (c : ClientState) → get f'.clients key ≡ Some c
    → Lived terms (calls ++ call ∷ []) f' key c (StaysWhole terms calls f lives key call)
lives_call terms room calls f f' (admitted number stream (Ok k)) guarded same lives by key c at =
    by_number k key
    (λ e _.
    let new = lived_new terms calls f f' number k by.0 stream c guarded same by.1 by.2
    (ap (λ (x : ℕ). get f'.clients x) e ∙ at) in
    subst (λ (x : ℕ). Lived terms (calls ++ admitted number stream (Ok k) ∷ []) f' x c
    (StaysWhole terms calls f lives x (admitted number stream (Ok k)))) e
    (record { lived = new.lived; whole = λ _. new.whole tt }))
    (λ far _. stays_lived terms room calls f f' (admitted number stream (Ok k)) lives by key c
    (sym (by.2.isolated.clients key (λ e. far (sym e))) ∙ at)
    (λ never. never) (λ place never. never) refl (λ last. refl))
lives_call terms room calls f f' (admitted number stream (Err why)) guarded same lives by key c at =
    let unchanged = refused f f' number stream why by in
    stays_lived terms room calls f f' (admitted number stream (Err why)) lives by key c
    (sym (unchanged.clients key) ∙ at) (λ never. never) (λ place never. never) refl (λ last. refl)
lives_call terms room calls f f' (ran k place turn told) guarded same lives by key c at =
    by_number k key
    (λ e _. subst (λ (x : ℕ). Lived terms (calls ++ ran x place turn told ∷ []) f' key c
    (StaysWhole terms calls f lives key (ran x place turn told))) (sym e)
    (ran_here terms room calls f f' key place turn told lives
    (subst (λ (x : ℕ). RunsAt room f x place turn told f') e by) c at))
    (λ far e'. stays_lived terms room calls f f' (ran k place turn told) lives by key c
    (sym (by.runs.isolated.clients key (λ e. far (sym e))) ∙ at)
    (λ never. never) (λ p elsewhere. far elsewhere.0)
    (ap (λ (b : _). if b then told else []) e')
    (λ last. ap (λ (b : _). if b then Some turn else last) e'))
lives_call terms room calls f f' (closed k) guarded same lives by key c at = by_number k key
    (λ e _. absurd (none-some c (sym by.1.gone ∙ ap (λ (x : ℕ). get f'.clients x) e ∙ at)))
    (λ far _. stays_lived terms room calls f f' (closed k) lives by key c
    (sym (by.1.isolated.clients key (λ e. far (sym e))) ∙ at)
    far (λ place never. never) refl (λ last. refl))
lives_call terms room calls f f' (missed k) guarded same lives by key c at =
    stays_lived terms room calls f f' (missed k) lives by key c
    (ap (λ (x : FleetState). get x.clients key) (sym by.1) ∙ at)
    (λ never. never) (λ place never. never) refl (λ last. refl)
lives_call terms room calls f f' (gave place event reply) guarded same lives by key c at =
    stays_lived terms room calls f f' (gave place event reply) lives by key c
    (ap (λ (x : Slab ClientState). get x key) (sym by.clients) ∙ at)
    (λ never. never) (λ p never. never) refl (λ last. refl)
