-- What serving did, and the meter in the lock, are a run.
use Rattle.std.proofs.Common.{◌≡◌, ℕ, ◌+◌, ◌<◌, ◌≤◌, List, [], ◌∷◌, ◌++◌, map, Some, IfOk, Result}
use Rattle.std.proofs.Common.{refl, sym, ap, subst, ◌∙◌, arith, inl, inr}
use Rattle.shared_meter.specs.Calls.{Calls, IsLegal, Stands}
use Rattle.shared_meter.specs.KeptRecorder.{KeptRecorder}
use Rattle.meter_run.specs.Closing.{FindsTurn}
use Rattle.meter_run.specs.Runs.{AreOfRun, IsLeftOpen, IsRunFrom, StartsFrom, Traces}
use Rattle.meter_run.specs.Runs.{events_in}
use Rattle.meter_server.proofs.ServingAllLemmas.{ended_map}
use Rattle.meter_server.specs.ServingAll.{Acted, IsServed, OnEnded, events_by}
use Rattle.meter_server.proofs.SessionLemmas.{calls_as, calls_later}
use Rattle.meter_server.specs.WithSources.{Forecasts, ServesAll}
use Rattle.port_threads.specs.Ports.{AreCallsOf, child}
use Rattle.meter_server.specs.declared.serving_all.Served.{Served}
use Rattle.shared_meter.specs.Blocks.{AllBlocks}
use Rattle.shared_meter.specs.Handed.{MeterPort}
use Rattle.shared_meter.specs.Sources.{AllMoments, AllPresses}
use Rattle.relay_core.specs.Opening.{opening_of}
use Rattle.relay_core.specs.declared.opening.Opening.{Opening}
use Rattle.relay_events.specs.declared.event.Event.{Event}
use Rattle.relay_events.specs.declared.reply.Reply.{Reply}
use Rattle.relay_recorder.specs.Recording.{Recording}
use Rattle.session_io.specs.declared.fault.ServeFault.{ServeFault}
use Rattle.port_threads.proofs.Going.{goes_refl, leaf_among, leaf_below}
use Rattle.std.proofs.lemmas.Bool.{cases_lt}
use Rattle.std.proofs.Common.{◌≢◌, Bool, append-nil, length, length-append}
use Rattle.std.specs.Prelude.{if◌then◌else◌}
use Rattle.turn_lock.specs.declared.known.Known.{Known}
use Rattle.turn_lock.specs.Calls.{Yields}
use Rattle.turn_lock.specs.History.{IsAmong, IsLeaf, calls_by}
use Rattle.turn_lock.proofs.Lists.{calls_by-append, calls_none, is_same_number-refl}
use Rattle.turn_lock.specs.Rule.{IsUnused, first_known}
use Rattle.turn_lock.specs.declared.turned.Entry.{Entry}

-- the calls of a port that was joined are the same in the whole history
same_events : (q : MeterPort) (kept : KeptRecorder)
    (y : Yields (λ (x : KeptRecorder). x.origin) Stands IsLegal q.known kept) (number : List ℕ)
    → IsAmong number q.known.joined → events_in number y.history ≡ events_by number q
same_events q kept y number joined = ap (map (λ (call : Entry Event Reply). call.event))
    (y.own_calls number (inr joined))

acted_whole : (q : MeterPort) (kept : KeptRecorder)
    (y : Yields (λ (x : KeptRecorder). x.origin) Stands IsLegal q.known kept) (number : List ℕ)
    (Whole : List Event → Type 0)
    → Acted q number Whole → Whole (events_in number y.history)
acted_whole q kept y number Whole acted = subst Whole
    (sym (same_events q kept y number acted.joined)) acted.whole

-- the ports before `first` were joined in and have made no call
abbrev pub AreSilent : ℕ → MeterPort → Type 0
AreSilent first q = (i : ℕ) → i < first
    → IsLeaf (i ∷ []) q.known.joined × (calls_by (i ∷ []) q.known.seen ≡ [])

-- the number of a source's port, counted from the first
source_number : (first : ℕ) (o : Opening) (p : MeterPort) (i : ℕ) → StartsFrom first o p
    → child p.known.number (p.known.splits + i) ≡ (first + i) ∷ []
source_number first o p i start = ap (λ n. child n (p.known.splits + i)) start.number
    ∙ ap (λ (k : ℕ). (k + i) ∷ []) start.splits

first_number : (first : ℕ) (o : Opening) (p : MeterPort) → StartsFrom first o p
    → child p.known.number p.known.splits ≡ first ∷ []
first_number first o p start = ap (λ n. child n p.known.splits) start.number
    ∙ ap (λ (k : ℕ). k ∷ []) start.splits

-- what a source's port did, by its number in the run
source_whole : (q : MeterPort) (kept : KeptRecorder)
    (y : Yields (λ (x : KeptRecorder). x.origin) Stands IsLegal q.known kept)
    (served : Result Served ServeFault) (number named : List ℕ) (Whole : List Event → Type 0)
    → number ≡ named → OnEnded served (Acted q number Whole)
    → OnEnded served (Whole (events_in named y.history))
source_whole q kept y served number named Whole same acted = ended_map served (Acted q named Whole)
    (Whole (events_in named y.history)) (acted_whole q kept y named Whole)
    (subst (λ (n : List ℕ). OnEnded served (Acted q n Whole)) same acted)

-- a number that no port has has no call, in what the port has seen neither
unused_calls : (q : MeterPort) (kept : KeptRecorder)
    (y : Yields (λ (x : KeptRecorder). x.origin) Stands IsLegal q.known kept) (number : List ℕ)
    → IsUnused q.known number → calls_by number y.history ≡ calls_by number q.known.seen
unused_calls q kept y number unused =
    let none = y.unused number unused in
    none ∙ sym (calls_none number y.history q.known.seen y.seen none)

-- no other port has made a call
others_none : (q : MeterPort) (kept : KeptRecorder)
    (y : Yields (λ (x : KeptRecorder). x.origin) Stands IsLegal q.known kept)
    → q.known.number ≡ [] → calls_by [] q.known.seen ≡ []
    → ((i : ℕ) → i < q.known.splits → IsLeaf (i ∷ []) q.known.joined)
    → (number : List ℕ) → ((i : ℕ) → i < q.known.splits → number ≢ i ∷ [])
    → calls_by number y.history ≡ []
others_none q kept y root own joined [] other = y.own_calls [] (inl (sym root)) ∙ own
others_none q kept y root own joined (i ∷ []) other = elim (cases_lt i q.known.splits) [
  | inl low ↦ absurd (other i low refl)
  | inr high ↦ y.unused (i ∷ []) (inl record {
    count = i;
    rest = [];
    number_is = ap (λ (n : List ℕ). n ++ i ∷ []) (sym root);
    later = high;
  })
]
others_none q kept y root own joined (i ∷ j ∷ rest) other = elim (cases_lt i q.known.splits) [
  | inl low ↦ y.unused (i ∷ j ∷ rest)
      (inr (leaf_below (i ∷ []) j rest q.known.joined (joined i low)))
  | inr high ↦ y.unused (i ∷ j ∷ rest) (inl record {
    count = i;
    rest = j ∷ rest;
    number_is = ap (λ (n : List ℕ). n ++ i ∷ j ∷ rest) (sym root);
    later = high;
  })
]

-- the calls of each port are the same in the whole history
same_calls : (q : MeterPort) (kept : KeptRecorder)
    (y : Yields (λ (x : KeptRecorder). x.origin) Stands IsLegal q.known kept)
    → q.known.number ≡ []
    → ((i : ℕ) → i < q.known.splits → IsLeaf (i ∷ []) q.known.joined)
    → (number : List ℕ) → calls_by number y.history ≡ calls_by number q.known.seen
same_calls q kept y root joined [] = y.own_calls [] (inl (sym root))
same_calls q kept y root joined (i ∷ []) = elim (cases_lt i q.known.splits) [
  | inl low ↦ y.own_calls (i ∷ []) (inr (leaf_among (i ∷ []) q.known.joined (joined i low)))
  | inr high ↦ unused_calls q kept y (i ∷ []) (inl record {
    count = i;
    rest = [];
    number_is = ap (λ (n : List ℕ). n ++ i ∷ []) (sym root);
    later = high;
  })
]
same_calls q kept y root joined (i ∷ j ∷ rest) = elim (cases_lt i q.known.splits) [
  | inl low ↦ unused_calls q kept y (i ∷ j ∷ rest)
      (inr (leaf_below (i ∷ []) j rest q.known.joined (joined i low)))
  | inr high ↦ unused_calls q kept y (i ∷ j ∷ rest) (inl record {
    count = i;
    rest = j ∷ rest;
    number_is = ap (λ (n : List ℕ). n ++ i ∷ j ∷ rest) (sym root);
    later = high;
  })
]

-- no further call came after those that the port has seen
no_more : (seen rest history : Calls) → history ≡ seen ++ rest
    → ((number : List ℕ) → calls_by number history ≡ calls_by number seen) → history ≡ seen
no_more seen [] history all same = all ∙ append-nil seen
no_more seen (call ∷ rest) history all same =
    let by = call.by in
    let further : calls_by by (call ∷ rest) ≡ call ∷ calls_by by rest =
    ap (λ (b : Bool). if b then call ∷ calls_by by rest else calls_by by rest)
    (is_same_number-refl by) in
    let split : calls_by by seen ≡ calls_by by seen ++ call ∷ calls_by by rest =
    sym (same by) ∙ ap (calls_by by) all ∙ calls_by-append by seen (call ∷ rest)
    ∙ ap (λ (cs : Calls). calls_by by seen ++ cs) further in
    absurd (omega (
      arith,
      ap length split,
      length-append (calls_by by seen) (call ∷ calls_by by rest),
    ))

-- once each port that was split off was joined in, the port has seen the whole history
pub whole_history : (q : MeterPort) (kept : KeptRecorder)
    (y : Yields (λ (x : KeptRecorder). x.origin) Stands IsLegal q.known kept)
    → q.known.number ≡ []
    → ((i : ℕ) → i < q.known.splits → IsLeaf (i ∷ []) q.known.joined)
    → y.history ≡ q.known.seen
whole_history q kept y root joined =
    no_more q.known.seen y.seen.0 y.history y.seen.1 (same_calls q kept y root joined)

-- each port that was split off was joined in: those before the sources, and the others
all_joined : (first : ℕ) (Serves : MeterPort → MeterPort → Type 0) (o : Opening) (p q : MeterPort)
    (sources : Forecasts) (served : Result Served ServeFault) → StartsFrom first o p
    → AreSilent first q → ServesAll Serves sources p q served → (i : ℕ) → i < q.known.splits
    → IsLeaf (i ∷ []) q.known.joined
all_joined first Serves o p q sources served start silent s i below =
    let number : q.known.number ≡ [] = s.goes.number ∙ start.number in
    elim (cases_lt i first) [
      | inl early ↦ (silent i early).0
      | inr late ↦ subst (λ (n : List ℕ). IsLeaf (n ++ i ∷ []) q.known.joined) number
          (s.joined i (omega (arith, late, start.splits)) below)
    ]

calls_of_run : (first : ℕ) (Serves : MeterPort → MeterPort → Type 0) (sources : Forecasts)
    (served : Result Served ServeFault) (o : Opening) (p q : MeterPort) (kept : KeptRecorder)
    → (y : Yields (λ (x : KeptRecorder). x.origin) Stands IsLegal q.known kept)
    → StartsFrom first o p → AreSilent first q → ServesAll Serves sources p q served
    → AreOfRun first Serves kept.origin sources served y.history
calls_of_run first Serves sources served o p q kept y start silent s =
    let number : q.known.number ≡ [] = s.goes.number ∙ start.number in
    let joined = all_joined first Serves o p q sources served start silent s in
    record {
      lawful = y.lawful;
      ports = q.known.splits;
      others = others_none q kept y number (s.goes.own [] (inl (sym start.number)) ∙ start.own)
          joined;
      silent = λ i below.
          y.own_calls (i ∷ []) (inr (leaf_among (i ∷ []) q.known.joined (silent i below).0))
          ∙ (silent i below).1;
      blocks = source_whole q kept y served _ (first ∷ []) (AllBlocks sources.blocks)
          (first_number first o p start) s.blocks;
      moments = source_whole q kept y served _ ((first + 1) ∷ []) (AllMoments sources.moments)
          (source_number first o p 1 start) s.moments;
      presses = source_whole q kept y served _ ((first + 2) ∷ []) (AllPresses sources.presses)
          (source_number first o p 2 start) s.presses;
      sessions = λ i from below.
          let after : p.known.splits + 3 ≤ i = subst (λ (k : ℕ). k + 3 ≤ i) (sym start.splits) from
          in
          let mine : AreCallsOf Serves (i ∷ []) q.known.seen =
          subst (λ (n : List ℕ). AreCallsOf Serves (n ++ i ∷ []) q.known.seen) number
          (s.sessions i after below) in
          calls_later Serves (i ∷ []) q.known.seen y.history y.seen
          (y.own_calls (i ∷ []) (inr (leaf_among (i ∷ []) q.known.joined (joined i below)))) mine;
      counted = subst (λ (k : ℕ). IfOk served (IsServed (k + 3) q.known.splits)) start.splits
          s.counted;
    }

some_same : (a b : Opening) → Some a ≡ Some b → a ≡ b
some_same a b e = cc

pub run_of : (first : ℕ) (Serves : MeterPort → MeterPort → Type 0) (recorder : Recording)
    (sources : Forecasts) (served : Result Served ServeFault) (text : List ℕ) (p q : MeterPort)
    (o : Opening) → StartsFrom first o p → o ≡ opening_of recorder.core → AreSilent first q
    → ServesAll Serves sources p q served → Traces q.known text
    → IsRunFrom first Serves recorder sources served text
run_of first Serves recorder sources served text p q o start is silent serves traces =
    let y = traces.yields in
    record {
      kept = traces.kept;
      begun = some_same traces.kept.origin o
          (sym y.origin_is ∙ serves.goes.origin ∙ start.origin_is) ∙ is;
      calls = y.history;
      of_run = calls_of_run first Serves sources served o p q traces.kept y start silent serves;
      stands = y.results;
      traced = traces.traced;
    }

-- the calls of a run are those that its port has seen
pub run_seen : (first : ℕ) (Serves : MeterPort → MeterPort → Type 0) (recorder : Recording)
    (sources : Forecasts) (served : Result Served ServeFault) (text : List ℕ) (p q : MeterPort)
    (o : Opening) → (start : StartsFrom first o p) (is : o ≡ opening_of recorder.core)
    (silent : AreSilent first q) (serves : ServesAll Serves sources p q served)
    (traces : Traces q.known text)
    → (run_of first Serves recorder sources served text p q o start is silent serves traces).calls
    ≡ q.known.seen
unfolding run_of
run_seen first Serves recorder sources served text p q o start is silent serves traces =
    whole_history q traces.kept traces.yields (serves.goes.number ∙ start.number)
    (all_joined first Serves o p q sources served start silent serves)

-- the first port of a lock
pub starts_first : (o : Opening) (p : MeterPort) → p.known ≡ first_known o → StartsFrom 0 o p
starts_first o p first = record {
  origin_is = ap (λ (k : Known Event Reply Opening). k.origin) first;
  number = ap (λ (k : Known Event Reply Opening). k.number) first;
  splits = ap (λ (k : Known Event Reply Opening). k.splits) first;
  own = ap (λ (k : Known Event Reply Opening). calls_by [] k.seen) first;
}

pub none_before : (q : MeterPort) → AreSilent 0 q
none_before q i below = absurd (omega (arith, below))

-- a run without a journal at whose end a turn was still out
pub left_open : (Serves : MeterPort → MeterPort → Type 0) (recorder : Recording)
    (sources : Forecasts) (served : Result Served ServeFault) (p q : MeterPort)
    → p.known ≡ first_known (opening_of recorder.core) → ServesAll Serves sources p q served
    → FindsTurn q.known → IsLeftOpen 0 Serves recorder sources served
left_open Serves recorder sources served p q known serves finds = record {
  started = p;
  starts = starts_first (opening_of recorder.core) p known;
  ended = q;
  serves = serves;
  closing = q;
  goes = goes_refl q;
  finds = finds;
}

-- a run in which each session's port did some work is one in which it did what that implies
pub run_as : (first : ℕ) (Serves Other : MeterPort → MeterPort → Type 0) (recorder : Recording)
    (sources : Forecasts) (served : Result Served ServeFault) (text : List ℕ)
    → ((p q : MeterPort) → Serves p q → Other p q)
    → IsRunFrom first Serves recorder sources served text
    → IsRunFrom first Other recorder sources served text
run_as first Serves Other recorder sources served text so run =
    let calls = run.of_run in
    record {
      kept = run.kept;
      begun = run.begun;
      calls = run.calls;
      of_run = record {
        lawful = calls.lawful;
        ports = calls.ports;
        others = calls.others;
        silent = calls.silent;
        blocks = calls.blocks;
        moments = calls.moments;
        presses = calls.presses;
        sessions = λ i from below.
            calls_as Serves Other so (i ∷ []) run.calls (calls.sessions i from below);
        counted = calls.counted;
      };
      stands = run.stands;
      traced = run.traced;
    }
