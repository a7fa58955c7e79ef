-- The calls of a worker once its port was joined in, and that they do not change afterwards.
use Rattle.std.proofs.Common.{◌≡◌, ℕ, zero, suc, ◌+◌, ◌<◌, ◌≤◌, List, [], ◌++◌, refl, sym, ◌∙◌, ap, subst, inl, inr, arith, Option, Some, None, IfOk, map}
use Rattle.std.proofs.lemmas.Bool.{cases_eq}
use Rattle.std.specs.Prelude.{IfErr, IfSome, OnOk, Result, Ok, Err}
use Rattle.relay_events.specs.declared.event.Event.{Event}
use Rattle.relay_events.specs.declared.reply.Reply.{Reply}
use Rattle.turn_lock.specs.declared.turned.Entry.{Entry}
use Rattle.lane_sampler.specs.Samples.{Samples}
use Rattle.session_io.specs.Settling.{fault_of}
use Rattle.turn_lock.specs.declared.call_fault.CallFault.{CallFault}
use Rattle.turn_lock.specs.declared.call_fault.CallFault.TheVariants as call
use Rattle.turn_lock.specs.History.{IsAmong, IsLeaf, calls_by}
use Rattle.turn_lock.specs.Shown.{IsSame}
use Rattle.port_threads.specs.Ports.{PortContinues, AreJoined, AreServed, SplitsOff, TakesIn}
use Rattle.port_threads.specs.Ports.{child}
use Rattle.port_threads.specs.Workers.{EndsWork, ReturnsPort}
use Rattle.port_threads.proofs.Going.{goes_trans}
use Rattle.shared_meter.specs.Calls.{Calls}
use Rattle.shared_meter.specs.Handed.{MeterPort, PassesAll, own_events}
use Rattle.shared_meter.specs.Handed.{StopsFor as WorkerStops}
use Rattle.shared_meter.specs.Blocks.{AllBlocks}
use Rattle.shared_meter.specs.Sources.{AllMoments, AllPresses, Includes}
use Rattle.session_io.specs.declared.fault.ServeFault.{ServeFault}
use Rattle.session_io.specs.declared.fault.ServeFault.TheVariants as fault
use Rattle.meter_server.specs.declared.serving_all.Served.{Served}
use Rattle.meter_server.proofs.SessionLemmas.{none_served, served_on}
use Rattle.meter_server.specs.ServingAll.{Accounts, Acted, Counts, EndsWith, IsServed, IsSpent}
use Rattle.meter_server.specs.ServingAll.{OnEnded, StopsFor, events_by, first_of, worker_fault}
use Rattle.meter_server.specs.WithSources.{Forecasts, ServesAll, ServesWith, first_then}

fresh_handed : (own : MeterPort) → calls_by own.known.number own.known.seen ≡ []
    → own_events own ≡ []
fresh_handed own fresh = ap (map (λ (call : Entry Event Reply). call.event)) fresh

whole_all : (CanFollow : List Event → Type 0) (own back : MeterPort) (events : List Event)
    → events ≡ own_events back → own_events own ≡ [] → PassesAll CanFollow own back
    → CanFollow events
whole_all CanFollow own back events e fresh passes =
    subst CanFollow (sym (e ∙ passes.handed ∙ ap (λ xs. xs ++ passes.events) fresh)) passes.all

-- the work of a worker whose events can be these
abbrev Did : (List Event → Type 0) → MeterPort → MeterPort → Result (Unit {0}) CallFault → Type 0
Did CanFollow p q end = IsSame p q × OnOk end (PassesAll CanFollow p q) × IfErr end (WorkerStops q)

-- the work of the worker whose port was returned
did_all : (CanFollow : List Event → Type 0) (own back : MeterPort)
    (end : Option (Result (Unit {0}) CallFault))
    → EndsWork (Did CanFollow) own back end → end ≡ Some (Ok tt) → PassesAll CanFollow own back
did_all CanFollow own back end ended is =
    let E : Option (Result (Unit {0}) CallFault) → Type 0 =
    λ e. EndsWork (Did CanFollow) own back e in
    (subst E is ended).1

acted_as : (own back q : MeterPort) (Whole : List Event → Type 0) → IsSame own back
    → IsAmong back.known.number q.known.joined → Whole (events_by own.known.number q)
    → Acted q own.known.number Whole
acted_as own back q Whole same joined whole =
    let J : List ℕ → Type 0 = λ n. IsAmong n q.known.joined in
    record { joined = subst J same.number joined; whole = whole }

-- the calls of the port that was returned, by the number of the one that was lent
their_events : (own back before q : MeterPort) → IsSame own back → TakesIn before back q
    → events_by own.known.number q ≡ own_events back
their_events own back before q same taken =
    ap (map (λ (call : Entry Event Reply). call.event))
    (ap (λ n. calls_by n q.known.seen) (sym same.number) ∙ taken.theirs)

-- the worker whose port was returned did all its work, if it came to its end
acted_own : (CanFollow : List Event → Type 0) (own before q : MeterPort)
    (end : Option (Result (Unit {0}) CallFault))
    → ReturnsPort (Did CanFollow) own end before q → calls_by own.known.number own.known.seen ≡ []
    → end ≡ Some (Ok tt) → Acted q own.known.number CanFollow
acted_own CanFollow own before q end back fresh is =
    acted_as own back.back q CanFollow back.same back.taken.joined
    (whole_all CanFollow own back.back _ (their_events own back.back before q back.same back.taken)
    (fresh_handed own fresh) (did_all CanFollow own back.back end back.ended is))

-- a property of a port's number is preserved
pub acted_on : (p q : MeterPort) (number : List ℕ) (Whole : List Event → Type 0) → PortContinues p q
    → Acted p number Whole → Acted q number Whole
acted_on p q number Whole goes acted =
    let P : List Event → Type 0 = λ events. Whole events in
    record {
      joined = goes.joined number acted.joined;
      whole = subst P (sym (ap (map (λ (call : Entry Event Reply). call.event))
          (goes.own number (inr acted.joined)))) acted.whole;
    }

-- the calls of a port are complete also for an equal number
acted_by : (q : MeterPort) (m n : List ℕ) (Whole : List Event → Type 0) → m ≡ n → Acted q m Whole
    → Acted q n Whole
acted_by q m n Whole e acted = let Q : List ℕ → Type 0 = λ k. Acted q k Whole in subst Q e acted

-- the ports that were joined in remain so; they are the ports that were split off
pub joined_on : (q last : MeterPort) (from : ℕ) → PortContinues q last
    → last.known.splits ≡ q.known.splits
    → AreJoined from q → AreJoined from last
joined_on q last from goes splits joined i low high =
    let J : List ℕ → Type 0 = λ n. IsLeaf n last.known.joined in
    subst J (ap (λ n. child n i) (sym goes.number))
    (goes.leaves _ (joined i low (omega (arith, high, splits))))

-- one more port was split off before the others
joined_more : (p own lent last : MeterPort) → SplitsOff p own lent → PortContinues lent last
    → AreJoined lent.known.splits last → IsLeaf own.known.number last.known.joined
    → AreJoined p.known.splits last
joined_more p own lent last off goes joined mine i low high =
    let number = goes.number ∙ off.goes.number in
    let J : List ℕ → Type 0 = λ n. IsLeaf n last.known.joined in
    elim (cases_eq i p.known.splits) [
      | inl same ↦ subst J (off.number ∙ ap (λ n. child n p.known.splits) (sym number)
          ∙ ap (λ k. child last.known.number k) (sym same)) mine
      | inr other ↦ joined i (omega (arith, low, other, off.splits)) high
    ]

pub ended_map : (served : Result Served ServeFault) (A B : Type 0) → (A → B) → OnEnded served A
    → OnEnded served B
ended_map (Ok all) A B f a = f a
ended_map (Err fault.Listen) A B f a = f a
ended_map (Err fault.Memory) A B f a = tt
ended_map (Err fault.Exhausted) A B f a = tt
ended_map (Err fault.Read) A B f a = tt
ended_map (Err fault.Write) A B f a = tt
ended_map (Err fault.Journal) A B f a = tt

ended_by : (served : Result Served ServeFault) (A : Type 0) → A → OnEnded served A
ended_by (Ok all) A a = a
ended_by (Err fault.Listen) A a = a
ended_by (Err fault.Memory) A a = tt
ended_by (Err fault.Exhausted) A a = tt
ended_by (Err fault.Read) A a = tt
ended_by (Err fault.Write) A a = tt
ended_by (Err fault.Journal) A a = tt

-- a worker's fault claims nothing about the sources
not_ended : (A : Type 0) (f : CallFault) → OnEnded (Err (fault_of f)) A
not_ended A call.Memory = tt
not_ended A call.Exhausted = tt
not_ended A call.Journal = tt

-- the served connections are counted also by equal counts of splits
pub counted_by : (served : Result Served ServeFault) (from before splits later : ℕ) → from ≡ before
    → splits ≡ later → IfOk served (IsServed from splits) → IfOk served (IsServed before later)
counted_by served from before splits later same still so =
    subst (λ n. IfOk served (IsServed before n)) still
    (subst (λ n. IfOk served (IsServed n splits)) same so)

stops_for : (A B F : Type 0) (f : ServeFault) → (A → B) → StopsFor A F f → StopsFor B F f
stops_for A B F fault.Memory so why = tt
stops_for A B F fault.Exhausted so why = so why
stops_for A B F fault.Listen so why = why
stops_for A B F fault.Read so why = why
stops_for A B F fault.Write so why = why
stops_for A B F fault.Journal so why = why

-- the reason for stopping, with its parts replaced by implied ones
map_stops : (result : Result Served ServeFault) (A B F : Type 0) → IfErr result (StopsFor A F)
    → (A → B) → IfErr result (StopsFor B F)
map_stops (Ok all) A B F why so = tt
map_stops (Err f) A B F why so = stops_for A B F f so why

-- the first result if the worker did not stop, or stopped with this fault
first_none : (served : Result Served ServeFault) → first_of served None ≡ served
first_none (Ok all) = refl
first_none (Err fault.Memory) = refl
first_none (Err fault.Listen) = refl
first_none (Err fault.Exhausted) = refl
first_none (Err fault.Read) = refl
first_none (Err fault.Write) = refl
first_none (Err fault.Journal) = refl

first_some : (P : Result Served ServeFault → Type 0) (served : Result Served ServeFault)
    (f : ServeFault) → P (Err fault.Memory) → P (Err f) → P (first_of served (Some f))
first_some P (Ok all) f memory stopped = stopped
first_some P (Err fault.Memory) f memory stopped = memory
first_some P (Err fault.Listen) f memory stopped = stopped
first_some P (Err fault.Exhausted) f memory stopped = stopped
first_some P (Err fault.Read) f memory stopped = stopped
first_some P (Err fault.Write) f memory stopped = stopped
first_some P (Err fault.Journal) f memory stopped = stopped

-- the first result is that of the clients if the worker came to its end, or else the worker's fault
first_by : (P : Result Served ServeFault → Type 0) (served : Result Served ServeFault)
    (end : Option (Result (Unit {0}) CallFault)) → (end ≡ Some (Ok tt) → P served)
    → P (Err fault.Memory) → ((f : CallFault) → end ≡ Some (Err f) → P (Err (fault_of f)))
    → P (first_of served (worker_fault end))
first_by P served None ended memory stopped = first_some P served fault.Memory memory memory
first_by P served (Some (Ok done)) ended memory stopped =
    subst P (sym (first_none served)) (ended refl)
first_by P served (Some (Err f)) ended memory stopped =
    first_some P served (fault_of f) memory (stopped f refl)

-- a worker was refused a call, so the port into which its port was joined is spent
spent_by : (CanFollow : List Event → Type 0) (own begun before q : MeterPort)
    (end : Option (Result (Unit {0}) CallFault))
    → ReturnsPort (Did CanFollow) own end before q
    → PortContinues begun before → own.bound ≡ begun.bound → end ≡ Some (Err call.Exhausted)
    → IsSpent q
spent_by CanFollow own begun before q end back goes bound is =
    let E : Option (Result (Unit {0}) CallFault) → Type 0 =
    λ e. EndsWork (Did CanFollow) own back.back e in
    let spent : back.back.bound ≤ back.back.known.drawn = (subst E is back.ended).2 in
    let same : q.bound ≡ back.back.bound = back.taken.goes.bound ∙ goes.bound ∙ sym bound
    ∙ sym back.same.bound in
    omega (arith, spent, same, back.taken.drawn)

-- why a worker stopped is why the server stops
stops_by : (CanFollow : List Event → Type 0) (own begun before q : MeterPort)
    (end : Option (Result (Unit {0}) CallFault)) (F : Type 0)
    → ReturnsPort (Did CanFollow) own end before q
    → PortContinues begun before → own.bound ≡ begun.bound
    → (f : CallFault) → end ≡ Some (Err f) → StopsFor (IsSpent q) F (fault_of f)
stops_by CanFollow own begun before q end F back goes bound call.Memory is = tt
stops_by CanFollow own begun before q end F back goes bound call.Exhausted is =
    spent_by CanFollow own begun before q end back goes bound is
stops_by CanFollow own begun before q end F back goes bound call.Journal is =
    let E : Option (Result (Unit {0}) CallFault) → Type 0 =
    λ e. EndsWork (Did CanFollow) own back.back e in
    absurd (subst E is back.ended).2

-- a spent port remains spent
spent_on : (p q : MeterPort) → PortContinues p q → IsSpent p → IsSpent q
spent_on p q goes spent = omega (arith, goes.bound, goes.drawn, spent)

-- A worker was joined after the clients were served
module _ {did : MeterPort → MeterPort → Result (Unit {0}) CallFault
    → Type 0} {own mid last : MeterPort} {served result : Result Served ServeFault}
    (ends : EndsWith did own served result mid last) where
  result_by : (P : Result Served ServeFault → Type 0) → (ends.end ≡ Some (Ok tt) → P served)
      → P (Err fault.Memory) → ((f : CallFault) → ends.end ≡ Some (Err f) → P (Err (fault_of f)))
      → P result
  result_by P ended memory stopped =
      subst P (sym ends.first) (first_by P served ends.end ended memory stopped)

  pub ok_beside : (P : Served → Type 0) → IfOk served P → IfOk result P
  ok_beside P so = result_by (λ r. IfOk r P) (λ _. so) tt (λ _ _. tt)

-- A port was split off for the worker before
module _ {W : Type 0} (CanFollow : W → List Event → Type 0) (worker : W)
    {p own lent mid last : MeterPort} {served result : Result Served ServeFault}
    (off : SplitsOff p own lent)
    (ends : EndsWith (Did (CanFollow worker)) own served result mid last) where
  pub stops_beside : (A F : Type 0) → PortContinues lent mid → IfErr served (StopsFor A F)
      → (A → IsSpent mid) → IfErr result (StopsFor (IsSpent last) F)
  stops_beside A F goes why so =
      result_by ends (λ r. IfErr r (StopsFor (IsSpent last) F))
      (λ _. map_stops served A _ F why (λ spent. spent_on mid last ends.back.taken.goes (so spent)))
      tt
      (stops_by (CanFollow worker) own lent mid last ends.end F ends.back goes (off.bound
      ∙ sym off.goes.bound))

  -- the work of the worker
  acted_itself : OnEnded result
      (Acted last (child p.known.number p.known.splits) (CanFollow worker))
  acted_itself =
      result_by ends
      (λ r. OnEnded r (Acted last (child p.known.number p.known.splits) (CanFollow worker)))
      (λ is. ended_by served _ (acted_by last _ _ (CanFollow worker) off.number
      (acted_own (CanFollow worker) own mid last ends.end ends.back off.fresh is))) tt
      (λ f is. not_ended _ f)

  -- facts about another worker are preserved
  acted_beside : (i j : ℕ) (Whole : List Event → Type 0) → i ≡ j
      → OnEnded served (Acted mid (child lent.known.number i) Whole)
      → OnEnded result (Acted last (child p.known.number j) Whole)
  acted_beside i j Whole same so =
      result_by ends (λ r. OnEnded r (Acted last (child p.known.number j) Whole))
      (λ _. ended_map served _ _ (λ acted. acted_by last _ _ Whole
      (ap (λ n. child n i) off.goes.number ∙ ap (λ k. child p.known.number k) same)
      (acted_on mid last _ Whole ends.back.taken.goes acted)) so) tt (λ f is. not_ended _ f)

  -- the events of the source with an index: the worker's first, and then the others
  acted_each : (count : ℕ) (Others : ℕ → List Event → Type 0)
      → ((i : ℕ) → i < count
      → OnEnded served (Acted mid (child lent.known.number (lent.known.splits + i)) (Others i)))
      → (i : ℕ) → i < count + 1
      → OnEnded result (Acted last (child p.known.number (p.known.splits + i))
      (first_then (CanFollow worker) Others i))
  acted_each count Others acted zero low =
      let same : p.known.splits ≡ p.known.splits + 0 = omega arith in
      let O : ℕ → Type 0 = λ k. OnEnded result
      (Acted last (child p.known.number k) (CanFollow worker)) in
      subst O same acted_itself
  acted_each count Others acted (suc i) low =
      acted_beside (lent.known.splits + i) (p.known.splits + suc i) (Others i)
      (omega (arith, off.splits)) (acted i (omega (arith, low)))

  -- what the result and the listener say of each other
  pub accounts_beside : (limit : ℕ) (before after : Counts) (A F : Type 0)
      → PortContinues lent mid → Accounts limit before after A F served → (A → IsSpent mid)
      → Accounts limit before after (IsSpent last) F result
  accounts_beside limit before after A F goes accounts so = record {
    limited = ok_beside ends _ accounts.limited;
    counted = ok_beside ends _ accounts.counted;
    reasons = ok_beside ends _ accounts.reasons;
    fault = stops_beside A F goes accounts.fault so;
  }

  serves_worker : (Serves : MeterPort → MeterPort → Type 0) (count : ℕ)
      (Others : ℕ → List Event → Type 0) → ServesWith Serves count Others lent mid served
      → ServesWith Serves (count + 1) (first_then (CanFollow worker) Others) p last result
  serves_worker Serves count Others inner =
      let since = goes_trans lent mid last inner.goes ends.back.taken.goes in
      let from : lent.known.splits + count ≡ p.known.splits + (count + 1) =
      omega (arith, off.splits) in
      let J : List ℕ → Type 0 = λ n. IsLeaf n last.known.joined in
      record {
        goes = goes_trans p lent last off.goes since;
        joined = joined_more p own lent last off since (joined_on mid last _ ends.back.taken.goes
            ends.back.taken.splits inner.joined) (subst J ends.back.same.number
            (ends.back.taken.leaf (ends.back.same.splits ∙ off.unsplit)));
        sessions = served_on Serves lent.known.splits _ _ mid last from (omega arith)
            ends.back.taken.goes ends.back.taken.splits inner.joined inner.sessions;
        counted = ok_beside ends _ (counted_by served _ _ _ _ from (sym ends.back.taken.splits)
            inner.counted);
        acted = acted_each count Others inner.acted;
      }

-- the clients were served with one more source than before
pub serves_beside : {W : Type 0} (CanFollow : W → List Event → Type 0) {worker given : W}
    {p own lent mid last : MeterPort} {served result : Result Served ServeFault}
    {Serves : MeterPort → MeterPort → Type 0} {count : ℕ} {Others : ℕ → List Event → Type 0}
    → worker ≡ given → SplitsOff p own lent
    → EndsWith (Did (CanFollow worker)) own served result mid last
    → ServesWith Serves count Others lent mid served
    → ServesWith Serves (count + 1) (first_then (CanFollow given) Others) p last result
serves_beside {W} CanFollow {worker} {given} {p} {own} {lent} {mid} {last} {served} {result}
    {Serves} {count} {Others} same off ends inner =
    let P : W → Type 0 = λ w. ServesWith Serves (count + 1) (first_then (CanFollow w) Others) p
    last result in
    subst P same (serves_worker CanFollow worker off ends Serves count Others inner)

-- the clients were served with no source
pub serves_alone : (Serves : MeterPort → MeterPort → Type 0) (Any : ℕ → List Event → Type 0)
    (p q : MeterPort) (served : Result Served ServeFault)
    → PortContinues p q → AreJoined p.known.splits q → AreServed Serves p.known.splits q
    → IfOk served (IsServed p.known.splits q.known.splits) → ServesWith Serves 0 Any p q served
serves_alone Serves Any p q served goes joined sessions counted =
    let same : p.known.splits ≡ p.known.splits + 0 = omega arith in
    let S : ℕ → Type 0 = λ n. AreServed Serves n q in
    record {
      goes = goes;
      joined = joined;
      sessions = subst S same sessions;
      counted = counted_by served _ _ _ _ same refl counted;
      acted = λ i low. absurd (omega (arith, low));
    }

-- a worker was not started, so no client was served
pub serves_none : (Serves : MeterPort → MeterPort → Type 0) (count : ℕ)
    (Any : ℕ → List Event → Type 0) (p q : MeterPort)
    → PortContinues p q → AreJoined p.known.splits q → q.known.splits ≤ p.known.splits + 1
    → ServesWith Serves (count + 1) Any p q (Err fault.Memory)
serves_none Serves count Any p q goes joined most = record {
  goes = goes;
  joined = joined;
  sessions = none_served Serves _ q (omega (arith, most));
  counted = tt;
  acted = λ i low. tt;
}

-- then nothing was counted
pub accounts_none : (limit : ℕ) (before after : Counts) (spent failed : Type 0)
    → Accounts limit before after spent failed (Err fault.Memory)
accounts_none limit before after spent failed =
    record { limited = tt; counted = tt; reasons = tt; fault = tt }

-- the events of a source are all its events
acted_at : {Serves : MeterPort → MeterPort → Type 0} {count : ℕ}
    {CanFollow : ℕ → List Event → Type 0} {p q : MeterPort} {served : Result Served ServeFault}
    (i n : ℕ) (Whole : List Event → Type 0) → ServesWith Serves count CanFollow p q served
    → i < count → p.known.splits + i ≡ n → Includes Whole (CanFollow i)
    → OnEnded served (Acted q (child p.known.number n) Whole)
acted_at {p = p} {q = q} {served = served} i n Whole serves low same all =
    let N : ℕ → Type 0 = λ k. OnEnded served (Acted q (child p.known.number k) Whole) in
    subst N same (ended_map served _ _
    (λ acted. record { joined = acted.joined; whole = all _ acted.whole }) (serves.acted i low))

-- a meter's own sources are three, whose events are those of its blocks, moments and presses
pub serves_sources : {Serves : MeterPort → MeterPort → Type 0} {sources : Forecasts}
    {blocks : Option (List Samples)} {moments : Option (List ℕ)} {presses : Option ℕ}
    {CanFollow : ℕ → List Event → Type 0} {p q : MeterPort} {served : Result Served ServeFault}
    → sources ≡ record { blocks = blocks; moments = moments; presses = presses }
    → ServesWith Serves 3 CanFollow p q served
    → Includes (AllBlocks blocks) (CanFollow 0) → Includes (AllMoments moments) (CanFollow 1)
    → Includes (AllPresses presses) (CanFollow 2) → ServesAll Serves sources p q served
serves_sources {Serves} {sources} {blocks} {moments} {presses} {CanFollow} {p} {q} {served} same
    serves all_blocks all_moments all_presses =
    subst (λ (given : Forecasts). ServesAll Serves given p q served) (sym same) record {
      goes = serves.goes;
      joined = serves.joined;
      sessions = serves.sessions;
      counted = serves.counted;
      blocks = acted_at 0 _ _ serves (omega arith) (omega arith) all_blocks;
      moments = acted_at 1 _ _ serves (omega arith) (omega arith) all_moments;
      presses = acted_at 2 _ _ serves (omega arith) (omega arith) all_presses;
    }
