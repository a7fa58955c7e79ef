-- What serving did, the journal's worker and the meter in the lock are a run with a journal.
use Rattle.std.proofs.Common.{◌≡◌, ℕ, ◌+◌, ◌≤◌, List, [], ◌∷◌}
use Rattle.std.proofs.Common.{Option, Some, None}
use Rattle.std.proofs.Common.{length, Result, Ok, Err, IfOk, OnOk, refl, sym, ap, subst, ◌∙◌, arith, inl, inr}
use Rattle.durable_lines.specs.CrashModel.{LeavesOnly}
use Rattle.durable_lines.specs.FileModel.{FileModel}
use Rattle.durable_lines.specs.Lines.{lines_in}
use Rattle.durable_lines.proofs.Moments.{leaves_as}
use Rattle.meter_journal.specs.Relaying.{IsRelayed, OnRelay}
use Rattle.meter_journal.specs.Saving.{AreOnDisk, IsAllSaved, IsFileOf, IsSaved, IsSavedFrom}
use Rattle.meter_journal.specs.Saving.{Keeps}
use Rattle.meter_journal.proofs.FaultLemmas.{fails_as}
use Rattle.meter_journal.proofs.RelayedLemmas.{relay_longer, relay_same}
use Rattle.meter_journal.proofs.SavingLemmas.{saved_later}
use Rattle.meter_journal.specs.declared.fault.JournalFault.{JournalFault}
use Rattle.meter_journal.specs.declared.journal.JournalEnd.{JournalEnd}
use Rattle.meter_journal.specs.declared.journal.JournalParts.{JournalParts}
use Rattle.meter_run.specs.Journaled.{IsFinished, IsOnDisk, IsRun, IsStarted, Leaves, Runs}
use Rattle.meter_run.specs.Journaled.{ActsOnFailure, CanFail, fault_of_journal, fault_of_lines}
use Rattle.meter_run.specs.Journaled.{fault_of_worker, parts_of_journal}
use Rattle.meter_journal.specs.Faults.{FailsFor}
use Rattle.meter_run.specs.declared.running.MeterRun.{MeterRun}
use Rattle.meter_run.specs.Closing.{FindsTurn}
use Rattle.meter_run.specs.Runs.{Traces}
use Rattle.meter_server.specs.WithSources.{Forecasts, ServesAll}
use Rattle.meter_server.specs.Journaled.{JournalSteps}
use Rattle.meter_server.specs.Ports.{PortSteps}
use Rattle.meter_server.specs.Sessions.{ServesClient}
use Rattle.program.specs.declared.fault.Fault.TheVariants as fault
use Rattle.std.specs.Prelude.{⊤, ◌⊎◌, IfErr, IfSome, IsErrOf, IsSome, if◌then◌else◌}
use Rattle.std.proofs.Common.{Bool, true, false, ◌==◌, eqb-true}
use Rattle.meter_run.proofs.RunLemmas.{AreSilent, left_open, none_before, run_of, run_seen}
use Rattle.meter_run.proofs.RunLemmas.{starts_first}
use Rattle.meter_server.proofs.ServingAllLemmas.{acted_on, counted_by, ended_map, joined_on}
use Rattle.meter_server.proofs.SessionLemmas.{served_on}
use Rattle.meter_server.specs.declared.serving_all.Served.{Served}
use Rattle.port_threads.proofs.Going.{goes_trans, leaf_among, starts_trans}
use Rattle.port_threads.specs.Ports.{PortContinues, SplitsOff, child}
use Rattle.port_threads.specs.Workers.{ReturnsPort, EndsWork}
use Rattle.program.specs.declared.fault.Fault.{Fault}
use Rattle.relay_core.specs.Opening.{opening_of}
use Rattle.relay_core.specs.declared.opening.Opening.{Opening}
use Rattle.relay_events.specs.declared.event.Event.{Event}
use Rattle.relay_events.specs.declared.reply.Reply.{Reply}
use Rattle.relay_recorder.specs.Recording.{Recording}
use Rattle.session_io.specs.declared.fault.ServeFault.{ServeFault}
use Rattle.shared_meter.specs.Calls.{Calls, IsLegal}
use Rattle.shared_meter.specs.Handed.{MeterPort}
use Rattle.shared_meter.specs.Pending.{lines_of_calls}
use Rattle.turn_lock.specs.Calls.{Watches}
use Rattle.turn_lock.specs.History.{StartsWith, IsAmong, IsLeaf, calls_by}
use Rattle.turn_lock.specs.Shown.{IsSame}
use Rattle.turn_lock.specs.Rule.{first_known}
use Rattle.turn_lock.specs.declared.known.Known.{Known}

-- a worker of a port
abbrev Did : Type 0 → Type 1
Did A = MeterPort → MeterPort → A → Type 0

-- the first port that was split off, and the one that it was split off from
pub started_first : (o : Opening) (p own q : MeterPort) → p.known ≡ first_known o
    → SplitsOff p own q → IsStarted o own q
started_first o p own q first off =
    let number : p.known.number ≡ [] = ap (λ (k : Known Event Reply Opening). k.number) first in
    record {
      starts = record {
        origin_is = off.goes.origin ∙ ap (λ (k : Known Event Reply Opening). k.origin) first;
        number = off.goes.number ∙ number;
        splits = off.splits ∙ ap (λ (k : Known Event Reply Opening). k.splits + 1) first;
        own = off.goes.own [] (inl (sym number))
            ∙ ap (λ (k : Known Event Reply Opening). calls_by [] k.seen) first;
      };
      lock = off.lock ∙ sym off.goes.lock;
      origin_is = off.origin ∙ ap (λ (k : Known Event Reply Opening). k.origin) first;
      number = off.number ∙ ap (λ (k : Known Event Reply Opening). child k.number k.splits) first;
      unsplit = off.unsplit;
      fresh = off.fresh;
    }

-- a port that has watched is a later state of itself
goes_watches : (p q : MeterPort) → IsSame p q → Watches IsLegal p.known q.known
    → PortContinues p q
goes_watches p q same watches = record {
  lock = same.lock;
  bound = same.bound;
  origin = same.origin;
  number = same.number;
  splits = omega (arith, same.splits);
  drawn = watches.sees.drawn;
  seen = watches.sees.seen;
  joined = λ n among. subst (IsAmong n) (sym same.joined) among;
  leaves = λ n leaf. subst (IsLeaf n) (sym same.joined) leaf;
  own = watches.sees.own_calls;
}

-- serving is as it was once a port that was split off before is joined in
serves_joined : (Serves : MeterPort → MeterPort → Type 0) (sources : Forecasts)
    (served : Result Served ServeFault) (p q after : MeterPort) → PortContinues q after
    → after.known.splits ≡ q.known.splits → ServesAll Serves sources p q served
    → ServesAll Serves sources p after served
serves_joined Serves sources served p q after on splits s =
    record {
      goes = goes_trans p q after s.goes on;
      joined = joined_on q after p.known.splits on splits s.joined;
      sessions = served_on Serves p.known.splits (p.known.splits + 3) (p.known.splits + 3) q after
          refl (omega arith) on splits s.joined s.sessions;
      counted = counted_by served _ _ _ _ refl (sym splits) s.counted;
      blocks = ended_map served _ _ (acted_on q after _ _ on) s.blocks;
      moments = ended_map served _ _ (acted_on q after _ _ on) s.moments;
      presses = ended_map served _ _ (acted_on q after _ _ on) s.presses;
    }

-- the port that was lent made no call
made_none : {A : Type 0} (did : Did A)
    → ((p q : MeterPort) (end : A) → did p q end
    → Watches IsLegal p.known q.known) → (lent back : MeterPort)
    (end : Option A) → EndsWork did lent back end
    → calls_by lent.known.number back.known.seen ≡ calls_by lent.known.number lent.known.seen
made_none did quiet lent back None same = ap
    (λ (p : MeterPort). calls_by lent.known.number p.known.seen) same
made_none did quiet lent back (Some end) worked =
    (quiet lent back end worked).sees.own_calls lent.known.number (inl refl)

-- the journal's port is the only one before those of the sources, and has made no call
silent_first : {A : Type 0} (did : Did A)
    → ((p q : MeterPort) (end : A) → did p q end
    → Watches IsLegal p.known q.known) → (lent before after : MeterPort)
    (end : Option A) → ReturnsPort did lent end before after
    → lent.known.number ≡ 0 ∷ [] → lent.known.splits ≡ 0
    → calls_by lent.known.number lent.known.seen ≡ [] → AreSilent 1 after
silent_first did quiet lent before after end back number unsplit fresh i below =
    let first : i ≡ 0 = omega (arith, below) in
    let named : back.back.known.number ≡ i ∷ [] =
    back.same.number ∙ number ∙ sym (ap (λ (n : ℕ). n ∷ []) first) in
    let J : List ℕ → Type 0 = λ n. IsLeaf n after.known.joined in
    let C : List ℕ → Type 0 = λ n. calls_by n after.known.seen ≡ [] in
    let theirs : calls_by back.back.known.number after.known.seen ≡ [] =
    back.taken.theirs ∙ ap (λ (n : List ℕ). calls_by n back.back.known.seen) back.same.number
    ∙ made_none did quiet lent back.back end back.ended ∙ fresh in
    (subst J named (back.taken.leaf (back.same.splits ∙ unsplit)), subst C named theirs)

-- nor has it made one later
silent_later : (q after : MeterPort) → PortContinues q after → AreSilent 1 q → AreSilent 1 after
silent_later q after goes silent i below =
    let before = silent i below in (
      goes.leaves (i ∷ []) before.0,
      goes.own (i ∷ []) (inr (leaf_among (i ∷ []) q.known.joined before.0)) ∙ before.1,
    )

-- the fault of a journal that has all lines of its run, or not
abbrev fault_if : Bool → Result (Unit {0}) Fault
fault_if all = if all then Ok tt else Err fault.Memory

-- a fact of a journal that has all lines of its run
if_all : (b : Bool) (count lines : ℕ) (P : Type 0) → (count == lines) ≡ b → (count ≡ lines → P)
    → OnOk (fault_if b) P
if_all true count lines P is so = so (eqb-true count lines is)
if_all false count lines P is so = tt

if_equal : (count lines : ℕ) (P : Type 0) → (count ≡ lines → P)
    → OnOk (fault_of_lines count (Some lines)) P
if_equal count lines P so = if_all (count == lines) count lines P refl so

-- the action for failures is not owed by a journal that lacks lines
no_fault : (HasActed CanHave : JournalFault → Type 0) (b : Bool)
    → ActsOnFailure HasActed CanHave (fault_if b)
no_fault HasActed CanHave true = tt
no_fault HasActed CanHave false = tt

no_action : (HasActed CanHave : JournalFault → Type 0) (count : ℕ) (lines : Option ℕ)
    → ActsOnFailure HasActed CanHave (fault_of_lines count lines)
no_action HasActed CanHave count None = tt
no_action HasActed CanHave count (Some lines) = no_fault HasActed CanHave (count == lines)

-- what the worker of a journal did: it made no call, its file has a front of the lines, and its
-- relay was given the changes by a front of the calls
module _ {F W : Type 0} (model : FileModel F) (contents : W → Option (List ℕ)) (MayEnd : Type 0)
    (HasActed : JournalFault → Type 0) (parts : JournalParts F W) where
  abbrev JournalDid : Did (JournalEnd F W)
  JournalDid = Keeps model contents MayEnd HasActed parts

  quiet : (p q : MeterPort) (end : JournalEnd F W) → JournalDid p q end
      → Watches IsLegal p.known q.known
  quiet p q end worked = worked.watches

  abbrev first_lines : List (List ℕ)
  first_lines = lines_in (model.seen parts.file)

  -- a crash that leaves the lines of a history leaves those of a longer one
  leaves_later : (ended : F) (before after : Calls) → StartsWith after before
      → LeavesOnly model parts.file ended (IsSavedFrom model.renews 0 first_lines before)
      → LeavesOnly model parts.file ended (IsSavedFrom model.renews 0 first_lines after)
  leaves_later ended before after longer =
      leaves_as model parts.file ended (IsSavedFrom model.renews 0 first_lines before)
      (IsSavedFrom model.renews 0 first_lines after)
      (λ c (n, from, saved).
      (n, from, saved_later model.renews first_lines n before after c longer saved))

  -- what the journal has of the calls of a history
  abbrev LeftBy : Opening → Calls → Result (Unit {0}) Fault → JournalParts F W → Type 0
  LeftBy origin calls journal = Leaves model contents origin calls journal parts

  -- a file with as many lines as a longer history has all of its lines, and so has its relay
  all_left : (origin : Opening) (back : MeterPort) (calls : Calls) (end : JournalEnd F W)
      (count number : ℕ) → end.saved ≡ Ok count → count ≡ number
      → number ≡ length (lines_of_calls calls) → StartsWith calls back.known.seen
      → back.known.origin ≡ Some origin → IfSome parts.relay (λ relay. relay.given ≡ 0)
      → (worked : (lent : MeterPort) × JournalDid lent back end)
      → LeftBy origin calls (Ok tt) end.parts
  all_left origin back calls end count number saved same known longer origin_is fresh worked =
      let did = worked.1 in
      let R : Result ℕ JournalFault → Type 0 = λ r. IfOk r
      (λ n. n ≡ length (lines_of_calls back.known.seen)) in
      let counted : count ≡ length (lines_of_calls back.known.seen) = subst R saved did.counted in
      let as_many : length (lines_of_calls back.known.seen) ≡ length (lines_of_calls calls) =
      sym counted ∙ same ∙ known in
      record {
        kept = λ a.
            let left = did.leaves a in
            let A : Result ℕ JournalFault → Type 0 = λ r. OnOk r
            ((c : List ℕ) → model.may_leave end.parts.file c
            → IsAllSaved model.renews first_lines back.known.seen c) in
            record {
              one_file = left.one_file;
              any_moment = leaves_later end.parts.file back.known.seen calls longer left.any_moment;
              all = λ c after. subst (λ n. IsSaved model.renews first_lines n calls c) as_many
                  (saved_later model.renews first_lines (length (lines_of_calls back.known.seen))
                  back.known.seen calls c longer (subst A saved left.all c after));
            };
        relayed = relay_same contents (IsOnDisk model parts.file) origin JournalFault Fault count
            tt back.known.seen calls parts.relay end.parts.relay longer as_many
            (subst (λ (r : Result ℕ JournalFault). OnRelay (IsRelayed contents
            (IsOnDisk model parts.file) origin back.known.seen r) parts.relay end.parts.relay)
            saved (did.relayed origin origin_is fresh));
      }

  -- what a journal that failed has of a longer history
  front_left : (origin : Opening) (back : MeterPort) (calls : Calls) (end : JournalEnd F W)
      (why : Fault) → StartsWith calls back.known.seen → back.known.origin ≡ Some origin
      → IfSome parts.relay (λ relay. relay.given ≡ 0)
      → (worked : (lent : MeterPort) × JournalDid lent back end)
      → LeftBy origin calls (Err why) end.parts
  front_left origin back calls end why longer origin_is fresh worked =
      let did = worked.1 in
      record {
        kept = λ a.
            let left = did.leaves a in
            record {
              one_file = left.one_file;
              any_moment = leaves_later end.parts.file back.known.seen calls longer left.any_moment;
              all = tt;
            };
        relayed = relay_longer contents (IsOnDisk model parts.file) origin (Unit {0}) end.saved why
            back.known.seen calls parts.relay end.parts.relay longer
            (did.relayed origin origin_is fresh);
      }

  left_if : (b : Bool) (origin : Opening) (back : MeterPort) (calls : Calls) (end : JournalEnd F W)
      (count number : ℕ) → (count == number) ≡ b → end.saved ≡ Ok count
      → number ≡ length (lines_of_calls calls) → StartsWith calls back.known.seen
      → back.known.origin ≡ Some origin → IfSome parts.relay (λ relay. relay.given ≡ 0)
      → (worked : (lent : MeterPort) × JournalDid lent back end)
      → LeftBy origin calls (fault_if b) end.parts
  left_if true origin back calls end count number is saved known longer origin_is fresh worked =
      all_left origin back calls end count number saved (eqb-true count number is) known longer
      origin_is fresh worked
  left_if false origin back calls end count number is saved known longer origin_is fresh worked =
      front_left origin back calls end fault.Memory longer origin_is fresh worked

  left_lines : (origin : Opening) (back : MeterPort) (calls : Calls) (end : JournalEnd F W)
      (count : ℕ) (lines : Option ℕ) → end.saved ≡ Ok count
      → IfSome lines (λ number. number ≡ length (lines_of_calls calls))
      → StartsWith calls back.known.seen → back.known.origin ≡ Some origin
      → IfSome parts.relay (λ relay. relay.given ≡ 0)
      → (worked : (lent : MeterPort) × JournalDid lent back end)
      → LeftBy origin calls (fault_of_lines count lines) end.parts
  left_lines origin back calls end count None saved known longer origin_is fresh worked =
      front_left origin back calls end fault.Memory longer origin_is fresh worked
  left_lines origin back calls end count (Some number) saved known longer origin_is fresh worked =
      left_if (count == number) origin back calls end count number refl saved known longer origin_is
      fresh worked

  left_saved : (origin : Opening) (back : MeterPort) (calls : Calls) (end : JournalEnd F W)
      (saved : Result ℕ JournalFault) (lines : Option ℕ) → end.saved ≡ saved
      → IfSome lines (λ number. number ≡ length (lines_of_calls calls))
      → StartsWith calls back.known.seen → back.known.origin ≡ Some origin
      → IfSome parts.relay (λ relay. relay.given ≡ 0)
      → (worked : (lent : MeterPort) × JournalDid lent back end)
      → LeftBy origin calls (fault_of_worker saved lines) end.parts
  left_saved origin back calls end (Ok count) lines is known longer origin_is fresh worked =
      left_lines origin back calls end count lines is known longer origin_is fresh worked
  left_saved origin back calls end (Err why) lines is known longer origin_is fresh worked =
      front_left origin back calls end fault.Write longer origin_is fresh worked

  -- what the worker returns, by the lines of a longer history
  left_by : (origin : Opening) (lent back : MeterPort) (end : Option (JournalEnd F W))
      (lines : Option ℕ) (calls : Calls) → StartsWith calls back.known.seen
      → IfSome lines (λ number. number ≡ length (lines_of_calls calls))
      → back.known.origin ≡ Some origin → IfSome parts.relay (λ relay. relay.given ≡ 0)
      → EndsWork JournalDid lent back end
      → IfSome (parts_of_journal end) (LeftBy origin calls (fault_of_journal end lines))
  left_by origin lent back None lines calls longer known origin_is fresh same = tt
  left_by origin lent back (Some end) lines calls longer known origin_is fresh worked =
      left_saved origin back calls end end.saved lines refl known longer origin_is fresh
      (lent, worked)

  returned_lines : (count : ℕ) (lines : Option ℕ) (now : JournalParts F W)
      → OnOk (fault_of_lines count lines) (IsSome (Some now))
  returned_lines count None now = tt
  returned_lines count (Some number) now =
      if_equal count number (IsSome (Some now)) (λ same. refl)

  returned_saved : (saved : Result ℕ JournalFault) (lines : Option ℕ) (now : JournalParts F W)
      → OnOk (fault_of_worker saved lines) (IsSome (Some now))
  returned_saved (Ok count) lines now = returned_lines count lines now
  returned_saved (Err why) lines now = tt

  returned_by : (end : Option (JournalEnd F W)) (lines : Option ℕ)
      → OnOk (fault_of_journal end lines) (IsSome (parts_of_journal end))
  returned_by None lines = tt
  returned_by (Some end) lines = returned_saved end.saved lines end.parts

  -- the action for failures was called by a worker that failed
  acts_saved : (lent back : MeterPort) (end : JournalEnd F W) (saved : Result ℕ JournalFault)
      (lines : Option ℕ) → end.saved ≡ saved → JournalDid lent back end
      → ActsOnFailure HasActed (CanFail model (Some end.parts)) (fault_of_worker saved lines)
  acts_saved lent back end (Ok count) lines is worked =
      no_action HasActed (CanFail model (Some end.parts)) count lines
  acts_saved lent back end (Err stopped) lines is worked =
      let failed = model.has_failed end.parts.file in
      let A : Result ℕ JournalFault → Type 0 = λ r. IfErr r HasActed in
      let C : Result ℕ JournalFault → Type 0 = λ r. IfErr r
      (FailsFor (back.bound ≤ back.known.drawn) failed) in (
        stopped,
        subst A is worked.acted,
        fails_as (back.bound ≤ back.known.drawn) failed ⊤ failed stopped (λ drawn. tt)
            (λ has. has) (subst C is worked.cause),
      )

  acts_by : (lent back : MeterPort) (end : Option (JournalEnd F W)) (lines : Option ℕ)
      → EndsWork JournalDid lent back end
      → ActsOnFailure HasActed (CanFail model (parts_of_journal end)) (fault_of_journal end lines)
  acts_by lent back None lines same = tt
  acts_by lent back (Some end) lines worked =
      acts_saved lent back end end.saved lines refl worked

  module _ {I O : Type 0} (remaining : I → Option (List ℕ)) (written : O → Option (List ℕ))
      (HasEnded : Type 0) (password : List ℕ) where
    -- the work of a session whose answers wait for the lines of a file with a number
    abbrev Waiting : ℕ → List (List ℕ) → MeterPort → MeterPort → Type 0
    Waiting number first = ServesClient remaining written
        (JournalSteps (AreOnDisk model number first) HasEnded (λ _. ⊤)) password

    abbrev Answers : MeterPort → MeterPort → Type 0
    Answers = Waiting (model.identity parts.file) first_lines

    journaled_run : (recorder : Recording) (sources : Forecasts)
        (served : Result Served ServeFault) (trace : Result (List ℕ) Fault)
        (journal : Result (Unit {0}) Fault) (ended : Option (JournalParts F W))
        (lent p q : MeterPort) → IfSome parts.relay (λ relay. relay.given ≡ 0)
        → IsStarted (opening_of recorder.core) lent p → ServesAll Answers sources p q served
        → IsFinished JournalDid lent q trace journal ended
        → IfOk trace (IsRun model contents remaining written HasEnded (Some parts) recorder password
        sources served journal ended)
    journaled_run recorder sources served (Err why) journal ended lent p q fresh started serves
        finished = tt
    journaled_run recorder sources served (Ok text) journal ended lent p q fresh started serves
        finished =
        let origin = opening_of recorder.core in
        let after = finished.after in
        let back = finished.back in
        let on = goes_watches finished.joined after finished.same finished.watches in
        let goes = goes_trans q finished.joined after back.taken.goes on in
        let silent : AreSilent 1 after = silent_later finished.joined after on
        (silent_first JournalDid quiet lent q finished.joined finished.end
        back started.number started.unsplit started.fresh) in
        let all = serves_joined Answers sources served p q after goes
        (finished.same.splits ∙ back.taken.splits) serves in
        let run = run_of 1 Answers recorder sources served text p after origin
        started.starts refl silent all finished.traces in
        let is_seen : run.calls ≡ after.known.seen =
        run_seen 1 Answers recorder sources served text p after origin
        started.starts refl silent all finished.traces in
        let longer : StartsWith run.calls back.back.known.seen =
        subst (λ (cs : Calls). StartsWith cs back.back.known.seen) (sym is_seen)
        (starts_trans back.back.known.seen finished.joined.known.seen after.known.seen
        back.taken.told finished.watches.sees.seen) in
        let known : IfSome finished.lines (λ number. number ≡ length (lines_of_calls run.calls)) =
        subst
        (λ (cs : Calls). IfSome finished.lines (λ number. number ≡ length (lines_of_calls cs)))
        (sym is_seen) finished.counted in
        record {
          run = run;
          returned = subst (λ (j : Result (Unit {0}) Fault). OnOk j (IsSome ended))
              (sym finished.fault)
              (subst (λ (e : Option (JournalParts F W)).
              OnOk (fault_of_journal finished.end finished.lines) (IsSome e))
              (sym finished.parts) (returned_by finished.end finished.lines));
          leaves = subst
              (λ (j : Result (Unit {0}) Fault). IfSome ended (LeftBy origin run.calls j))
              (sym finished.fault)
              (subst (λ (e : Option (JournalParts F W)). IfSome e
              (LeftBy origin run.calls (fault_of_journal finished.end finished.lines)))
              (sym finished.parts)
              (left_by origin lent back.back finished.end finished.lines run.calls longer known
              (back.same.origin ∙ started.origin_is) fresh back.ended));
        }

    -- how a run with a journal ended, by what serving did and by how it was finished
    journaled_runs : (recorder : Recording) (sources : Forecasts) (end : MeterRun F W)
        (lent p q : MeterPort) → IfSome parts.relay (λ relay. relay.given ≡ 0)
        → IsStarted (opening_of recorder.core) lent p → ServesAll Answers sources p q end.served
        → IsFinished JournalDid lent q end.trace end.journal end.parts
        → IfErr end.trace (λ why. (why ≡ fault.Turns) ⊎ (why ≡ fault.Memory))
        → IfErr end.journal (λ why. (why ≡ fault.Write) ⊎ (why ≡ fault.Memory))
        → Runs model contents remaining written HasEnded (Some parts) recorder password sources
        HasActed end
    journaled_runs recorder sources end lent p q fresh started serves finished no_text failed =
        record {
          run = journaled_run recorder sources end.served end.trace end.journal end.parts lent p q
              fresh started serves finished;
          no_text = no_text;
          still_out = λ busy. record {
            started = p;
            starts = started.starts;
            ended = q;
            serves = serves;
            closing = finished.after;
            goes = goes_trans q finished.joined finished.after finished.back.taken.goes
                (goes_watches finished.joined finished.after finished.same finished.watches);
            finds = finished.still_out busy;
          };
          journal = failed;
          acted = subst (λ (j : Result (Unit {0}) Fault).
              ActsOnFailure HasActed (CanFail model end.parts) j) (sym finished.fault)
              (subst (λ (e : Option (JournalParts F W)). ActsOnFailure HasActed (CanFail model e)
              (fault_of_journal finished.end finished.lines)) (sym finished.parts)
              (acts_by lent finished.back.back finished.end finished.lines finished.back.ended));
        }

-- a run is one also by the equal parts of its worker, and by handles of that file
pub runs_by : {F W I O : Type 0} (model : FileModel F) (contents : W → Option (List ℕ))
    (MayEnd : Type 0) (HasActed : JournalFault → Type 0) (parts its : JournalParts F W)
    (remaining : I → Option (List ℕ)) (written : O → Option (List ℕ)) (HasEnded : Type 0)
    (password : List ℕ) (number : ℕ) (first : List (List ℕ)) (recorder : Recording)
    (sources : Forecasts) (end : MeterRun F W) (lent p q : MeterPort) → its ≡ parts
    → IsFileOf model number first parts.file → IfSome parts.relay (λ relay. relay.given ≡ 0)
    → IsStarted (opening_of recorder.core) lent p
    → ServesAll (ServesClient remaining written (JournalSteps (AreOnDisk model number first)
    HasEnded (λ _. ⊤)) password) sources p q end.served
    → IsFinished (Keeps model contents MayEnd HasActed its) lent q end.trace end.journal end.parts
    → IfErr end.trace (λ why. (why ≡ fault.Turns) ⊎ (why ≡ fault.Memory))
    → IfErr end.journal (λ why. (why ≡ fault.Write) ⊎ (why ≡ fault.Memory))
    → Runs model contents remaining written HasEnded (Some parts) recorder password sources HasActed
    end
runs_by {F = F} {W = W} model contents MayEnd HasActed parts its remaining written HasEnded
    password number first recorder sources end lent p q is of_file fresh started serves finished =
    let waiting : ℕ → List (List ℕ) → Type 0 = λ n ls. ServesAll (Waiting model contents MayEnd
    HasActed parts remaining written HasEnded password n ls) sources p q end.served in
    journaled_runs model contents MayEnd HasActed parts remaining written HasEnded password
    recorder sources end lent p q fresh started
    (subst (λ n. waiting n (lines_in (model.seen parts.file))) (sym of_file.number_is)
    (subst (waiting number) (sym of_file.lines) serves))
    (subst (λ (parts : JournalParts F W). IsFinished (Keeps model contents MayEnd HasActed parts)
    lent q end.trace end.journal end.parts) is finished)

-- a run without a journal, if it has the text of its trace
plain_run : {F W I O : Type 0} (model : FileModel F) (contents : W → Option (List ℕ))
    (remaining : I → Option (List ℕ)) (written : O → Option (List ℕ)) (HasEnded : Type 0)
    (password : List ℕ) (recorder : Recording) (sources : Forecasts)
    (served : Result Served ServeFault) (trace : Result (List ℕ) Fault)
    (journal : Result (Unit {0}) Fault) (ended : Option (JournalParts F W)) (p q : MeterPort)
    → p.known ≡ first_known (opening_of recorder.core)
    → ServesAll (ServesClient remaining written PortSteps password) sources p q served
    → IfOk trace (Traces q.known)
    → IfOk trace (IsRun model contents remaining written HasEnded None recorder password sources
    served journal ended)
plain_run model contents remaining written HasEnded password recorder sources served (Ok text)
    journal ended p q first serves traces = record {
      run = run_of 0 _ recorder sources served text p q (opening_of recorder.core)
          (starts_first (opening_of recorder.core) p first) refl (none_before q) serves traces;
      returned = tt;
      leaves = tt;
    }
plain_run model contents remaining written HasEnded password recorder sources served (Err why)
    journal ended p q first serves traces = tt

-- a trace that is refused for memory is not refused for its turns
not_turns : (trace : Result (List ℕ) Fault) → trace ≡ Err fault.Memory
    → IsErrOf trace fault.Turns → ⊥
not_turns (Ok text) none busy = absurd cc
not_turns (Err why) none busy = absurd cc

-- a run without a journal
pub plain_runs : {F W I O : Type 0} (model : FileModel F) (contents : W → Option (List ℕ))
    (HasActed : JournalFault → Type 0) (remaining : I → Option (List ℕ))
    (written : O → Option (List ℕ)) (HasEnded : Type 0) (password : List ℕ)
    (recorder : Recording) (sources : Forecasts) (end : MeterRun F W) (p q : MeterPort)
    → p.known ≡ first_known (opening_of recorder.core)
    → ServesAll (ServesClient remaining written PortSteps password) sources p q end.served
    → IfOk end.trace (Traces q.known)
    → IfErr end.trace (λ why. (why ≡ fault.Turns) ⊎ (why ≡ fault.Memory))
    → (IsErrOf end.trace fault.Turns → FindsTurn q.known) → end.journal ≡ Ok tt
    → Runs model contents remaining written HasEnded None recorder password sources HasActed end
plain_runs model contents HasActed remaining written HasEnded password recorder sources end p q
    first serves traces no_text finds fine =
    record {
      run = plain_run model contents remaining written HasEnded password recorder sources end.served
          end.trace end.journal end.parts p q first serves traces;
      no_text = no_text;
      still_out = λ busy. left_open _ recorder sources end.served p q first serves (finds busy);
      journal = subst (λ (j : Result (Unit {0}) Fault).
          IfErr j (λ why. (why ≡ fault.Write) ⊎ (why ≡ fault.Memory))) (sym fine) tt;
      acted = subst (λ (j : Result (Unit {0}) Fault).
          ActsOnFailure HasActed (CanFail model end.parts) j) (sym fine) tt;
    }

-- a run for which no lock, journal, port or thread is available
pub no_runs : {F W I O : Type 0} (model : FileModel F) (contents : W → Option (List ℕ))
    (HasActed : JournalFault → Type 0) (remaining : I → Option (List ℕ))
    (written : O → Option (List ℕ)) (HasEnded : Type 0) (began : Option (JournalParts F W))
    (password : List ℕ) (recorder : Recording) (sources : Forecasts) (end : MeterRun F W)
    → end.trace ≡ Err fault.Memory → (end.journal ≡ Ok tt) ⊎ (end.journal ≡ Err fault.Memory)
    → Runs model contents remaining written HasEnded began recorder password sources HasActed end
no_runs model contents HasActed remaining written HasEnded began password recorder sources end none
    journal =
    let T : Result (List ℕ) Fault → Type 0 = λ t. IfErr t
    (λ why. (why ≡ fault.Turns) ⊎ (why ≡ fault.Memory)) in
    let J : Result (Unit {0}) Fault → Type 0 = λ j. IfErr j
    (λ why. (why ≡ fault.Write) ⊎ (why ≡ fault.Memory))
    × ActsOnFailure HasActed (CanFail model end.parts) j in
    let kept : J end.journal = elim journal [
      | inl fine ↦ subst J (sym fine) (tt, tt)
      | inr lost ↦ subst J (sym lost) (inr refl, tt)
    ] in
    record {
      run = subst (λ (t : Result (List ℕ) Fault). IfOk t (IsRun model contents remaining written
          HasEnded began recorder password sources end.served end.journal end.parts)) (sym none) tt;
      no_text = subst T (sym none) (inr refl);
      still_out = λ busy. absurd (not_turns _ none busy);
      journal = kept.0;
      acted = kept.1;
    }
