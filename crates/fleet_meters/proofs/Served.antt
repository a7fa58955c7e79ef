-- A connection over several calls.
use Rattle.std.proofs.Common.{◌≡◌, ◌≢◌, ℕ, if◌then◌else◌, List, [], ◌∷◌, ◌++◌, Option, Some, None}
use Rattle.std.proofs.Common.{IfSome, Ok, Err, refl, sym, ◌∙◌, ap, subst, append_assoc, append-nil}
use Rattle.std.specs.Prelude.{map}
use Rattle.std.specs.List.{concat}
use Rattle.std.specs.Io.KnownBytes.{Appends}
use Rattle.std.proofs.KnownBytes.{Appends-nil, Appends-trans}
use Rattle.std.proofs.lemmas.List.Folds.{concat-append}
use Rattle.std.proofs.lemmas.Option.{same_Some, none-some}
use Rattle.slab.specs.Slab.{Slab, get}
use Rattle.relay_events.specs.declared.event.Event.{Event}
use Rattle.relay_events.specs.declared.reply.Reply.{Reply}
use Rattle.relay_recorder.specs.Histories.{Exchange, events_of, replies_of}
use Rattle.relay_recorder.specs.Recording.{Recording}
use Rattle.session_core.specs.Backwards.{Asks, Answers, end_of}
use Rattle.embedded_meter.specs.Dialogues.{Dialogue, asks_ahead, sends_ahead}
use Rattle.embedded_meter.specs.MeterStates.{MeterState, dialogue_at}
use Rattle.embedded_meter.specs.Progress.{Owes, IsIdle}
use Rattle.fleet_links.specs.Serving.{Progresses}
use Rattle.fleet_links.specs.Streams.{StreamState}
use Rattle.fleet_links.specs.Turns.{Turns, LosesBy, max_steps}
use Rattle.fleet_links.specs.declared.link.LinkEnd.TheVariants.{Closed, Ended, TooLong, Memory}
use Rattle.fleet_links.specs.declared.link.Turn.{Turn}
use Rattle.fleet_links.specs.declared.link.Turn.TheVariants.{Waits, Again, Over}
use Rattle.fleet_meters.specs.Clients.{ClientState, link_of}
use Rattle.fleet_meters.specs.Fleets.{FleetState, IsNewFleet, Isolated, Admits}
use Rattle.fleet_meters.specs.Places.{meter_in, session_of, session_in}
use Rattle.fleet_meters.specs.Terms.{terms_at, terms_of}
use Rattle.fleet_meters.specs.declared.terms.FleetTerms.{FleetTerms}
use Rattle.fleet_meters.specs.declared.terms.MeterTerms.{MeterTerms}
use Rattle.fleet_meters.specs.Calls.{FleetCall, admitted, ran, closed, missed, gave, RunsAt}
use Rattle.fleet_meters.specs.Calls.{CallsBy, Calls}
use Rattle.fleet_meters.specs.Calls.{IsEnd, StaysOpen, told_in, exchanges_at}
use Rattle.fleet_meters.specs.Law.{HaveTheirFrames, HaveTheirAnswers}
use Rattle.fleet_meters.specs.Lives.{Remains, Lives, IsServed, HasAnswered}
use Rattle.fleet_meters.proofs.CallLists.{waits_not_over}
use Rattle.fleet_meters.proofs.Steps.{by_number, refused, IsGuarded, made_guarded, guarded_calls}
use Rattle.fleet_meters.proofs.Steps.{terms_kept}

map_both : {A B : Type 0} (f : A → B) (xs ys : List A) → map f (xs ++ ys) ≡ map f xs ++ map f ys
map_both f [] ys = refl
map_both f (x ∷ xs) ys = ap (λ (zs : List _). f x ∷ zs) (map_both f xs ys)

-- ---- what remains of a session

remains_new : (password : List ℕ) (d : Dialogue) → Owes password d → Remains password [] [] [] d
remains_new password d owes = record {
  asks = λ more. sym (owes.asks more);
  sends = λ more later. sym (owes.sends more later);
  ends = λ more. sym (owes.ends more);
}

remains_on : (password input input' : List ℕ) (told : List Exchange) (given given' : List (List ℕ))
    (d d' : Dialogue) (r r' : Recording) → Remains password input told given d
    → (went : Progresses d r input' given' d' r')
    → Remains password (input ++ input') (told ++ went.told) (given ++ given') d'
remains_on password input input' told given given' d d' r r' first went = record {
  asks = λ more.
      ap (λ (bytes : List ℕ). Asks password bytes) (append_assoc input input' more)
      ∙ first.asks (input' ++ more)
      ∙ ap (λ (es : List Event). events_of told ++ es) (went.asks more)
      ∙ sym (append_assoc (events_of told) (events_of went.told) (asks_ahead d' more))
      ∙ ap (λ (es : List Event). es ++ asks_ahead d' more)
      (sym (map_both (λ (e : Exchange). e.0) told went.told));
  sends = λ more later.
      ap (λ (bytes : List ℕ). Answers password bytes (replies_of (told ++ went.told) ++ later))
      (append_assoc input input' more)
      ∙ ap (λ (rs : List Reply). Answers password (input ++ (input' ++ more)) (rs ++ later))
      (map_both (λ (e : Exchange). e.1) told went.told)
      ∙ ap (λ (rs : List Reply). Answers password (input ++ (input' ++ more)) rs)
      (append_assoc (replies_of told) (replies_of went.told) later)
      ∙ first.sends (input' ++ more) (replies_of went.told ++ later)
      ∙ ap (λ (fs : List (List ℕ)). given ++ fs) (went.sends more later)
      ∙ sym (append_assoc given given' (sends_ahead d' more later));
  ends = λ more.
      ap (λ (bytes : List ℕ). end_of bytes) (append_assoc input input' more)
      ∙ first.ends (input' ++ more) ∙ went.ends more;
}

-- ---- one turn

-- nothing is lost unless memory runs out
loses_nothing : (turn : Turn) (unfed lost : List ℕ) → turn ≢ Over Memory
    → LosesBy turn unfed lost → (unfed ≡ []) × (lost ≡ [])
loses_nothing Waits unfed lost never loses = loses
loses_nothing Again unfed lost never loses = loses
loses_nothing (Over Closed) unfed lost never loses = loses
loses_nothing (Over (Ended end)) unfed lost never loses = loses
loses_nothing (Over TooLong) unfed lost never loses = loses
loses_nothing (Over Memory) unfed lost never loses = absurd (never refl)

-- the bytes of some turns, followed by those of another
queue_on : (given given' out out' b c lost : List ℕ) → lost ≡ [] → given ≡ out ++ b
    → b ++ given' ≡ out' ++ (c ++ lost) → given ++ given' ≡ (out ++ out') ++ c
queue_on given given' out out' b c lost none first then_ =
    ap (λ (xs : List ℕ). xs ++ given') first
    ∙ append_assoc out b given'
    ∙ ap (λ (xs : List ℕ). out ++ xs) (then_
    ∙ ap (λ (xs : List ℕ). out' ++ (c ++ xs)) none
    ∙ ap (λ (xs : List ℕ). out' ++ xs) (append-nil c))
    ∙ sym (append_assoc out out' c)

lives_on : (password : List ℕ) (origin : StreamState) (told : List Exchange) (room : ℕ)
    (c c' : ClientState) (d : Dialogue) (m m' : MeterState) (turn : Turn)
    → turn ≢ Over Memory → Lives password origin told c d
    → (turns : Turns c.number max_steps room (link_of m c) turn (link_of m' c'))
    → turns.serves.before ≡ d
    → Lives password origin (told ++ turns.serves.went.told) c' turns.serves.after
lives_on password origin told room c c' d m m' turn never lives turns same =
    let none = loses_nothing turn turns.unfed turns.lost never turns.loses in
    let remains = subst (λ (x : Dialogue).
    Remains password lives.input told lives.given x) (sym same) lives.remains in
    record {
      input = lives.input ++ turns.input;
      given = lives.given ++ turns.given;
      out = lives.out ++ turns.out;
      remains = remains_on password lives.input turns.input told lives.given turns.given
          turns.serves.before turns.serves.after m.recorder m'.recorder remains
          turns.serves.went;
      read = Appends-trans origin.arrived c.stream.arrived c'.stream.arrived lives.input
          turns.input lives.read
          (subst (λ (xs : List ℕ). Appends c.stream.arrived c'.stream.arrived xs)
          (ap (λ (xs : List ℕ). turns.input ++ xs) none.0 ∙ append-nil turns.input) turns.read);
      wrote = Appends-trans origin.written c.stream.written c'.stream.written lives.out turns.out
          lives.wrote turns.wrote;
      queue = concat-append lives.given turns.given
          ∙ queue_on (concat lives.given) (concat turns.given) lives.out turns.out c.pending
          c'.pending turns.lost none.1 lives.queue turns.queue;
    }

-- ---- one call

-- a session that is open
record Open (o : Option Dialogue) (P : Dialogue → Type 0) : Type 0 where
  pub dialogue : Dialogue
  pub is : o ≡ Some dialogue
  pub does : P dialogue

open_in : (o : Option Dialogue) (P : Dialogue → Type 0) → o ≢ None → IfSome o P → Open o P
open_in None P never is = absurd (never refl)
open_in (Some d) P _ is = record { dialogue = d; is = refl; does = is }

-- the connection is new
pub served_new : (f f' : FleetState) (place key : ℕ) (origin : StreamState) → IsGuarded f
    → Admits f place origin key f'
    → IsServed (terms_at f.terms place).password origin [] f' key
served_new f f' place key origin guarded admits =
    let seats = admits.seats in
    let o = open_in (dialogue_at seats.after admits.number) (Owes seats.before.password)
    seats.opens.is_open seats.opens.opened in
    record {
      client = record {
        place = place;
        number = admits.number;
        stream = origin;
        pending = [];
      };
      dialogue = o.dialogue;
      is = admits.client;
      session = ap (λ (x : Option MeterState). session_of x admits.number) seats.is ∙ o.is;
      lives = record {
        input = [];
        given = [];
        out = [];
        remains = remains_new (terms_at f.terms place).password o.dialogue
            (subst (λ (p : List ℕ). Owes p o.dialogue)
            (made_guarded f (meter_in f.places place) place seats.before guarded refl seats.makes)
            o.does);
        read = Appends-nil origin.arrived;
        wrote = Appends-nil origin.written;
        queue = refl;
      };
    }

-- another connection did something
served_isolated : (password : List ℕ) (origin : StreamState) (told : List Exchange)
    (f f' : FleetState) (key other : ℕ) → other ≢ key → Isolated f key f'
    → IsServed password origin told f other → IsServed password origin told f' other
served_isolated password origin told f f' key other far isolated served = record {
  client = served.client;
  dialogue = served.dialogue;
  is = isolated.clients other far ∙ served.is;
  session = isolated.sessions other served.client far served.is ∙ served.session;
  lives = served.lives;
}

served_same : (password : List ℕ) (origin : StreamState) (told : List Exchange)
    (f f' : FleetState) (key : ℕ) → f'.places ≡ f.places
    → get f'.clients key ≡ get f.clients key
    → IsServed password origin told f key → IsServed password origin told f' key
served_same password origin told f f' key places clients served = record {
  client = served.client;
  dialogue = served.dialogue;
  is = clients ∙ served.is;
  session = ap (λ (ps : List (Option MeterState)).
      session_in ps served.client.place served.client.number) places ∙ served.session;
  lives = served.lives;
}

-- the connection ran
ran_lives : (password : List ℕ) (origin : StreamState) (told applied : List Exchange)
    (room : ℕ) (f f' : FleetState) (key place : ℕ) (turn : Turn) → turn ≢ Over Memory
    → (at : RunsAt room f key place turn applied f') → IsServed password origin told f key
    → Lives password origin (told ++ applied) at.runs.after
    at.runs.turns.turns.turns.serves.after
ran_lives password origin told applied room f f' key place turn never at served =
    let runs = at.runs in
    let c = runs.before in
    let turns = runs.turns in
    let serves = turns.turns.turns.serves in
    let same : served.client ≡ c = same_Some served.client c (sym served.is ∙ runs.was) in
    let session : session_in f.places c.place c.number ≡ Some served.dialogue =
    subst (λ (x : ClientState). session_in f.places x.place x.number ≡ Some served.dialogue) same
    served.session in
    let was : serves.before ≡ served.dialogue =
    same_Some serves.before served.dialogue
    (sym serves.was ∙ sym (ap (λ (x : Option MeterState). session_of x c.number) turns.was)
    ∙ session) in
    subst (λ (t : List Exchange). Lives password origin (told ++ t) runs.after serves.after)
    at.applied
    (lives_on password origin told room c runs.after served.dialogue turns.before turns.after turn
    never
    (subst (λ (x : ClientState). Lives password origin told x served.dialogue) same served.lives)
    turns.turns.turns was)

served_ran : (password : List ℕ) (origin : StreamState) (told applied : List Exchange)
    (room : ℕ) (f f' : FleetState) (key place : ℕ) (turn : Turn) → turn ≢ Over Memory
    → RunsAt room f key place turn applied f' → IsServed password origin told f key
    → IsServed password origin (told ++ applied) f' key
served_ran password origin told applied room f f' key place turn never at served =
    let runs = at.runs in
    let c = runs.before in
    let turns = runs.turns in
    record {
      client = runs.after;
      dialogue = turns.turns.turns.serves.after;
      is = runs.is;
      session = ap (λ (p : ℕ). session_in f'.places p runs.after.number) turns.turns.place
          ∙ ap (λ (n : ℕ). session_in f'.places c.place n) turns.turns.number
          ∙ ap (λ (x : Option MeterState). session_of x c.number) turns.is
          ∙ turns.turns.turns.serves.is;
      lives = ran_lives password origin told applied room f f' key place turn never at served;
    }

told_nothing : (password : List ℕ) (origin : StreamState) (told : List Exchange) (f : FleetState)
    (key : ℕ) → IsServed password origin told f key → IsServed password origin (told ++ []) f key
told_nothing password origin told f key served =
    subst (λ (t : List Exchange). IsServed password origin t f key) (sym (append-nil told)) served

pub served_call : (password : List ℕ) (origin : StreamState) (told : List Exchange) (room key : ℕ)
    (call : FleetCall) (f f' : FleetState) → (¬ (IsEnd key call)) → CallsBy room f call f'
    → IsServed password origin told f key
    → IsServed password origin (told ++ told_in key call) f' key
served_call password origin told room key (admitted number stream (Ok new)) f f' never by served =
    told_nothing password origin told f' key
    (served_isolated password origin told f f' new key
    (λ e. none-some served.client (sym by.2.vacant
    ∙ ap (λ (k : ℕ). get f.clients k) (sym e) ∙ served.is))
    by.2.isolated served)
served_call password origin told room key (admitted number stream (Err why)) f f' never by served =
    let same = refused f f' number stream why by in
    told_nothing password origin told f' key
    (served_same password origin told f f' key same.places (same.clients key) served)
served_call password origin told room key (ran k place turn applied) f f' never by served =
    by_number k key
    (λ e e'. subst (λ (t : List Exchange). IsServed password origin (told ++ t) f' key)
    (sym (ap (λ (b : _). if b then applied else []) e'))
    (served_ran password origin told applied room f f' key place turn
    (λ ends. never (e, ends))
    (subst (λ (x : ℕ). RunsAt room f x place turn applied f') e by) served))
    (λ far e'. subst (λ (t : List Exchange). IsServed password origin (told ++ t) f' key)
    (sym (ap (λ (b : _). if b then applied else []) e'))
    (told_nothing password origin told f' key
    (served_isolated password origin told f f' k key (λ e. far (sym e)) by.runs.isolated served)))
served_call password origin told room key (closed k) f f' never by served =
    told_nothing password origin told f' key
    (served_isolated password origin told f f' k key (λ e. never (sym e)) by.1.isolated served)
served_call password origin told room key (missed k) f f' never by served =
    told_nothing password origin told f' key
    (served_same password origin told f f' key
    (ap (λ (x : FleetState). x.places) by.1)
    (ap (λ (x : FleetState). get x.clients key) by.1) served)
served_call password origin told room key (gave place event reply) f f' never by served =
    told_nothing password origin told f' key
    (record {
      client = served.client;
      dialogue = served.dialogue;
      is = ap (λ (clients : Slab ClientState). get clients key) by.clients ∙ served.is;
      session = by.sessions served.client.place served.client.number ∙ served.session;
      lives = served.lives;
    })

-- ---- several calls

served_calls : (password : List ℕ) (origin : StreamState) (told : List Exchange) (room key : ℕ)
    (calls : List FleetCall) (f f' : FleetState) → StaysOpen key calls → Calls room f calls f'
    → IsServed password origin told f key
    → IsServed password origin (told ++ exchanges_at key calls) f' key
served_calls password origin told room key [] f f' open_ by served =
    told_nothing password origin told f' key
    (served_same password origin told f f' key
    (ap (λ (x : FleetState). x.places) by)
    (ap (λ (x : FleetState). get x.clients key) by) served)
served_calls password origin told room key (call ∷ calls) f f' open_ by served =
    subst (λ (t : List Exchange). IsServed password origin t f' key)
    (append_assoc told (told_in key call) (exchanges_at key calls))
    (served_calls password origin (told ++ told_in key call) room key calls by.0 f' open_.1 by.2
    (served_call password origin told room key call f by.0 open_.0 by.1 served))

pub guarded_new : (terms : FleetTerms) (count : ℕ) (f : FleetState) → IsNewFleet terms count f
    → IsGuarded f
guarded_new terms count f new = record {
  passwords = λ place m at. absurd (none-some m (sym (new.unmade place) ∙ at));
}

pub have_frames : HaveTheirFrames
have_frames terms room key origin calls now a =
    let guarded = guarded_calls room a.first a.before a.earlier
    (guarded_new terms a.count a.first a.new) a.leads in
    let same : a.before.terms ≡ terms =
    terms_kept room a.first a.before a.earlier a.leads ∙ a.new.terms_are in
    let place = a.admission.0 in
    let its : terms_at a.before.terms place ≡ terms_of terms a.number =
    ap (λ (t : FleetTerms). terms_at t place) same
    ∙ ap (λ (n : ℕ). terms_of terms n) (sym a.admission.1) in
    subst (λ (t : MeterTerms). IsServed t.password origin (exchanges_at key calls) now key) its
    (served_calls (terms_at a.before.terms place).password origin [] room key calls a.after now
    a.open_since a.further
    (served_new a.before a.after place key origin guarded a.admission.2))

-- ---- a connection that waits

-- a session that owes nothing has given all frames
idle_answers : (password : List ℕ) (origin : StreamState) (told : List Exchange) (c : ClientState)
    (d : Dialogue) → Lives password origin told c d → IsIdle d → c.pending ≡ []
    → HasAnswered password origin told c.stream
idle_answers password origin told c d lives idle none = record {
  input = lives.input;
  read = lives.read;
  asked = ap (λ (bytes : List ℕ). Asks password bytes) (sym (append-nil lives.input))
      ∙ lives.remains.asks []
      ∙ ap (λ (es : List Event). events_of told ++ es) idle.asks
      ∙ append-nil (events_of told);
  wrote = subst (λ (bytes : List ℕ). Appends origin.written c.stream.written bytes)
      (all_given ∙ ap (λ (fs : List (List ℕ)). concat fs) (sym answers)) lives.wrote;
}
  where
    answers : Answers password lives.input (replies_of told) ≡ lives.given
    answers = ap (λ (bytes : List ℕ). Answers password bytes (replies_of told))
        (sym (append-nil lives.input))
        ∙ ap (λ (rs : List Reply). Answers password (lives.input ++ []) rs)
        (sym (append-nil (replies_of told)))
        ∙ lives.remains.sends [] []
        ∙ ap (λ (fs : List (List ℕ)). lives.given ++ fs) (idle.sends [])
        ∙ append-nil lives.given

    all_given : lives.out ≡ concat lives.given
    all_given = sym (lives.queue ∙ ap (λ (bytes : List ℕ). lives.out ++ bytes) none
        ∙ append-nil lives.out)

if_some : {A : Type 0} (o : Option A) (P : A → Type 0) (a : A) → o ≡ Some a → IfSome o P → P a
if_some None P a e is = absurd (none-some a e)
if_some (Some b) P a e is = subst P (same_Some b a e) is

-- a connection that waited, with nothing pending, has its answers
pub waited : (password : List ℕ) (origin : StreamState) (told applied : List Exchange)
    (room : ℕ) (before now : FleetState) (key place : ℕ) (c : ClientState)
    → RunsAt room before key place Waits applied now → IsServed password origin told before key
    → get now.clients key ≡ Some c → c.pending ≡ []
    → HasAnswered password origin (told ++ applied) c.stream
waited password origin told applied room before now key place c by served is none =
    let turns = by.runs.turns in
    let lives = ran_lives password origin told applied room before now key place Waits
    waits_not_over by served in
    let same : by.runs.after ≡ c = same_Some by.runs.after c (sym by.runs.is ∙ is) in
    let idle = if_some (dialogue_at turns.after by.runs.before.number) IsIdle
    turns.turns.turns.serves.after turns.turns.turns.serves.is
    (turns.turns.turns.stops.1 (ap (λ (x : ClientState). x.pending) same ∙ none)) in
    idle_answers password origin (told ++ applied) c turns.turns.turns.serves.after
    (subst (λ (x : ClientState). Lives password origin (told ++ applied) x
    turns.turns.turns.serves.after) same lives) idle none

pub have_answers : HaveTheirAnswers
have_answers terms room key place origin calls told before now c a by is none =
    waited (terms_of terms a.number).password origin (exchanges_at key calls) told room before now
    key place c by (have_frames terms room key origin calls before a) is none
