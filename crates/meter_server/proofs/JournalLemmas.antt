-- A port that waits for its journal: how it takes an event, and what is on the disk once it has
-- returned replies.
use Rattle.std.proofs.Common.{◌≡◌, ◌⊎◌, ℕ, zero, suc, ◌<◌, ◌≤◌, List, [], ◌∷◌, ◌++◌, length, take}
use Rattle.std.proofs.Common.{Option, Some, None, Result, Ok, Err, refl, sym, ap, subst, ◌∙◌}
use Rattle.std.proofs.Common.{inl, inr, arith}
use Rattle.std.proofs.lemmas.List.{append-nil, append_assoc}
use Rattle.std.proofs.Common.{drop}
use Rattle.meter_server.specs.Journaled.{AreWritten, HasCalled, IsHeldBack, IsOnDisk, IsWritten}
use Rattle.meter_server.specs.Journaled.{JournalSteps}
use Rattle.meter_server.specs.JournaledSessions.{AnswersCalls, AreAnswered}
use Rattle.meter_server.specs.JournaledSessions.{client_steps, client_terms, steps_by}
use Rattle.meter_server.specs.Ports.{Enters, PortSteps, entries}
use Rattle.meter_server.specs.Sessions.{ServesClient}
use Rattle.shared_meter.specs.Handed.{MeterPort}
use Rattle.meter_server.proofs.PortLemmas.{ArePortSteps, effect_by, entered, enters_more, is_same}
use Rattle.meter_server.proofs.PortLemmas.{port_steps, refusal_enters, replied_on, same_on}
use Rattle.meter_server.proofs.PortLemmas.{step_same}
use Rattle.meter_server.proofs.SessionLemmas.{client_same}
use Rattle.port_threads.specs.Ports.{AreCallsOf}
use Rattle.relay_events.specs.declared.event.Event.{Event}
use Rattle.relay_events.specs.declared.reply.Reply.{Reply}
use Rattle.session_core.specs.declared.end.SessionEnd.{SessionEnd}
use Rattle.session_io.specs.Meters.{RepliesTo, RefusesLast}
use Rattle.session_io.specs.Serving.{ServesSession, plan_of}
use Rattle.session_io.specs.Sides.{Sides}
use Rattle.session_io.specs.declared.fault.ServeFault.{ServeFault}
use Rattle.relay_core.specs.declared.opening.Opening.{Opening}
use Rattle.shared_meter.specs.Calls.{Calls, IsLegal}
use Rattle.shared_meter.proofs.SettlingLemmas.{durable_later}
use Rattle.turn_lock.proofs.Lists.{starts_refl, starts_trans}
use Rattle.turn_lock.specs.Calls.{Called}
use Rattle.turn_lock.specs.History.{StartsWith, calls_by, entry}
use Rattle.turn_lock.specs.Shown.{IsSame}
use Rattle.turn_lock.specs.declared.call_fault.CallFault.{CallFault}
use Rattle.turn_lock.specs.declared.call_fault.CallFault.TheVariants as call
use Rattle.turn_lock.specs.declared.known.Known.{Known}

-- the port remains the same one
called_same : (p : MeterPort) (event : Event) (reply : Reply) (q : MeterPort)
    → HasCalled p event reply q → IsSame p q
called_same p event reply q called = same_on p called.between q
    (step_same p event (Ok reply) called.between called.call) called.same

-- its calls are extended by this one
called_enters : (p : MeterPort) (event : Event) (reply : Reply) (q : MeterPort)
    → HasCalled p event reply q → Enters p (event ∷ []) (reply ∷ []) q
called_enters p event reply q called =
    called.watches.sees.own_calls p.known.number (inl (sym called.call.calls.number))
    ∙ called.call.calls.own_calls

-- after a call the port's history begins with the one that it knew before
pub reply_seen : (k : Known Event Reply Opening) (event : Event) (reply : Reply)
    (l : Known Event Reply Opening) → Called IsLegal k event reply l → StartsWith l.seen k.seen
reply_seen k event reply l called =
    let last = entry k.number event reply in
    (called.seen.0 ++ last ∷ [], called.seen.1 ∙ append_assoc k.seen called.seen.0 (last ∷ []))

-- so it does if the port has then watched
called_seen : (p : MeterPort) (event : Event) (reply : Reply) (q : MeterPort)
    → HasCalled p event reply q → StartsWith q.known.seen p.known.seen
called_seen p event reply q called =
    starts_trans q.known.seen called.between.known.seen p.known.seen called.watches.sees.seen
    (reply_seen p.known event reply called.between.known called.call.calls)

-- what holds of an event that was not passed on
held_same : (HasEnded : Type 0) (p : MeterPort) (event : Event) (q : MeterPort)
    → IsHeldBack HasEnded p event q → IsSame p q
held_same HasEnded p event q held = subst (λ x. IsSame p x) (sym held.1) (is_same p)

held_enters : (HasEnded : Type 0) (p : MeterPort) (event : Event) (q : MeterPort)
    → IsHeldBack HasEnded p event q → Enters p [] [] q
held_enters HasEnded p event q held = subst (λ x. Enters p [] [] x) (sym held.1)
    (sym (append-nil (calls_by p.known.number p.known.seen)))

held_seen : (HasEnded : Type 0) (p : MeterPort) (event : Event) (q : MeterPort)
    → IsHeldBack HasEnded p event q → StartsWith q.known.seen p.known.seen
held_seen HasEnded p event q held =
    subst (λ x. StartsWith x.known.seen p.known.seen) (sym held.1) (starts_refl p.known.seen)

-- the calls of a session are the same in a longer history without further calls of its port
pub answered_later : (IsDurable : Calls → ℕ → Type 0) (number : List ℕ) (before after : Calls)
    → StartsWith after before → calls_by number after ≡ calls_by number before
    → AreAnswered IsDurable number [] before → AreAnswered IsDurable number [] after
answered_later IsDurable number before after longer same are = record {
  answered = are.answered;
  unanswered = are.unanswered;
  all = same ∙ are.all;
  most = are.most;
  front = are.front;
  begins = starts_trans after before are.front longer are.begins;
  entered = are.entered;
  on_disk = λ low. durable_later IsDurable before after _ longer (are.on_disk low);
}

module _ (IsDurable : Calls → ℕ → Type 0) (HasEnded : Type 0)
    (WasRunning : MeterPort → Type 0) where
  -- a step of a port that waits for its journal
  abbrev pub Steps : MeterPort → Event → Result Reply CallFault → MeterPort → Type 0
  Steps = JournalSteps IsDurable HasEnded WasRunning

  journal_same : (p : MeterPort) (event : Event) (result : Result Reply CallFault) (q : MeterPort)
      → Steps p event result q → IsSame p q
  journal_same p event (Ok reply) q step = called_same p event reply q step.0
  journal_same p event (Err call.Memory) q step = step_same p event (Err call.Memory) q step
  journal_same p event (Err call.Exhausted) q step = step_same p event (Err call.Exhausted) q step
  journal_same p event (Err call.Journal) q step = elim step [
    | inl held ↦ held_same HasEnded p event q held
    | inr called ↦ called_same p event called.0 q called.1
  ]

  journal_refused : (p : MeterPort) (event : Event) (fault : CallFault) (q : MeterPort)
      → Steps p event (Err fault) q
      → Enters p [] [] q ⊎ ((reply : Reply) × Enters p (event ∷ []) (reply ∷ []) q)
  journal_refused p event call.Memory q step = inl (refusal_enters p event call.Memory q step)
  journal_refused p event call.Exhausted q step =
      inl (refusal_enters p event call.Exhausted q step)
  journal_refused p event call.Journal q step = elim step [
    | inl held ↦ inl (held_enters HasEnded p event q held)
    | inr called ↦ inr (called.0, called_enters p event called.0 q called.1)
  ]

  pub journal_steps : ArePortSteps Steps
  journal_steps = record {
    same = journal_same;
    replied = λ p event reply q step. called_enters p event reply q step.0;
    refused = journal_refused;
  }

  journal_seen : (p : MeterPort) (event : Event) (result : Result Reply CallFault) (q : MeterPort)
      → Steps p event result q → StartsWith q.known.seen p.known.seen
  journal_seen p event (Ok reply) q step = called_seen p event reply q step.0
  journal_seen p event (Err call.Memory) q step = step.calls.0.sees.seen
  journal_seen p event (Err call.Exhausted) q step = step.calls.0.sees.seen
  journal_seen p event (Err call.Journal) q step = elim step [
    | inl held ↦ held_seen HasEnded p event q held
    | inr called ↦ called_seen p event called.0 q called.1
  ]

  -- the history that the port knows begins with the one that it knew before it replied
  replied_seen : (p : MeterPort) (events : List Event) (replies : List Reply) (q : MeterPort)
      → RepliesTo Steps p events replies q
      → StartsWith q.known.seen p.known.seen
  replied_seen = replied_on Steps
      (λ p q. StartsWith q.known.seen p.known.seen) (λ p. starts_refl p.known.seen)
      (λ a b c one two. starts_trans c.known.seen b.known.seen a.known.seen two one) journal_seen

  -- the first reply has the history up to it on the disk
  first_written : (p : MeterPort) (event : Event) (reply : Reply) (next q : MeterPort)
      → Steps p event (Ok reply) next → StartsWith q.known.seen next.known.seen
      → IsWritten IsDurable p (event ∷ []) (reply ∷ []) q
  first_written p event reply next q step later =
      let between = step.0.between.known.seen in
      record {
        history = between;
        begins = starts_trans q.known.seen next.known.seen between later
            step.0.watches.sees.seen;
        entered = step.0.call.calls.own_calls;
        on_disk = durable_later IsDurable next.known.seen q.known.seen _ later step.1;
      }

  -- and so have the replies after it
  more_written : (p : MeterPort) (event : Event) (reply : Reply) (next : MeterPort)
      (events : List Event) (replies : List Reply) (q : MeterPort)
      → Steps p event (Ok reply) next → IsWritten IsDurable next events replies q
      → IsWritten IsDurable p (event ∷ events) (reply ∷ replies) q
  more_written p event reply next events replies q step later = record {
    history = later.history;
    begins = later.begins;
    entered = enters_more p event reply next events replies later.history
        (called_same p event reply next step.0).number
        (called_enters p event reply next step.0) later.entered;
    on_disk = later.on_disk;
  }

  -- each reply has the history up to it on the disk
  pub written : (p : MeterPort) (events : List Event) (replies : List Reply) (q : MeterPort)
      → RepliesTo Steps p events replies q
      → AreWritten IsDurable p events replies q
  written p [] [] q same n low high = absurd (omega (arith, low, high))
  written p [] (reply ∷ replies) q never n low high = absurd never
  written p (event ∷ events) [] q never n low high = absurd never
  written p (event ∷ events) (reply ∷ replies) q step zero low high =
      absurd (omega (arith, low))
  written p (event ∷ events) (reply ∷ replies) q (next, step, rest) (suc zero) low high =
      first_written p event reply next q step (replied_seen next events replies q rest)
  written p (event ∷ events) (reply ∷ replies) q (next, step, rest) (suc (suc n)) low high =
      more_written p event reply next (take (suc n) events) (take (suc n) replies) q step
      (written next events replies q rest (suc n) (omega arith) (omega (arith, high)))

  -- the last of some replies has the history up to it on the disk
  last_written : (p : MeterPort) (events : List Event) (replies : List Reply) (q : MeterPort)
      → RepliesTo Steps p events replies q → 0 < length replies
      → IsWritten IsDurable p events replies q
  last_written p [] [] q same low = absurd (omega (arith, low))
  last_written p [] (reply ∷ replies) q never low = absurd never
  last_written p (event ∷ events) [] q never low = absurd never
  last_written p (event ∷ []) (reply ∷ []) q (next, step, same) low =
      first_written p event reply next q step (replied_seen next [] [] q same)
  last_written p (event ∷ []) (reply ∷ later ∷ replies) q (next, step, never) low = absurd never
  last_written p (event ∷ other ∷ events) (reply ∷ []) q (next, step, never) low = absurd never
  last_written p (event ∷ other ∷ events) (reply ∷ later ∷ replies) q (next, step, rest) low =
      more_written p event reply next (other ∷ events) (later ∷ replies) q step
      (last_written next (other ∷ events) (later ∷ replies) q rest (omega arith))

  -- a front of the history that has the answered calls, of which the lines are on the disk
  record IsFront (p : MeterPort) (taken : List Event) (replies : List Reply) (q : MeterPort)
      : Type 0 where
    pub front : Calls
    pub begins : StartsWith q.known.seen front
    pub entered : calls_by p.known.number front ≡ calls_by p.known.number p.known.seen
        ++ entries p.known.number taken replies
    pub on_disk : 0 < length (entries p.known.number taken replies)
        → IsOnDisk IsDurable q.known.seen front

  front_of : (p : MeterPort) (taken : List Event) (replies : List Reply) (mid q : MeterPort)
      → RepliesTo Steps p taken replies mid
      → StartsWith q.known.seen mid.known.seen → IsFront p taken replies q
  front_of p [] [] mid q same begins = record {
    front = p.known.seen;
    begins = starts_trans q.known.seen mid.known.seen p.known.seen begins
        (replied_seen p [] [] mid same);
    entered = sym (append-nil (calls_by p.known.number p.known.seen));
    on_disk = λ low. absurd (omega (arith, low));
  }
  front_of p [] (reply ∷ replies) mid q never begins = absurd never
  front_of p (event ∷ events) [] mid q never begins = absurd never
  front_of p (event ∷ events) (reply ∷ replies) mid q replied begins =
      let last = last_written p (event ∷ events) (reply ∷ replies) mid replied (omega arith) in
      record {
        front = last.history;
        begins = starts_trans q.known.seen mid.known.seen last.history begins last.begins;
        entered = last.entered;
        on_disk = λ low. durable_later IsDurable mid.known.seen q.known.seen _ begins last.on_disk;
      }

  -- some replies were returned, and then at most one call was made that was not answered
  answered_by : (p : MeterPort) (taken : List Event) (replies : List Reply) (mid : MeterPort)
      (last : Calls) (q : MeterPort)
      → RepliesTo Steps p taken replies mid
      → StartsWith q.known.seen mid.known.seen → length last ≤ 1
      → calls_by mid.known.number q.known.seen ≡ calls_by mid.known.number mid.known.seen ++ last
      → AnswersCalls IsDurable p q
  answered_by p taken replies mid last q replied begins most adds =
      let by : List ℕ = p.known.number in
      let A : List ℕ → Type 0 = λ n. calls_by n q.known.seen ≡ calls_by n mid.known.seen ++ last in
      let same = replied_on Steps IsSame is_same same_on journal_same p taken
      replies mid replied in
      let enters = entered Steps journal_steps p taken replies mid replied in
      let found = front_of p taken replies mid q replied begins in
      record {
        answered = entries by taken replies;
        unanswered = last;
        all = subst A same.number adds ∙ ap (λ (calls : Calls). calls ++ last) enters;
        most = most;
        front = found.front;
        begins = found.begins;
        entered = found.entered;
        on_disk = found.on_disk;
      }

  replied_answered : (p : MeterPort) (events : List Event) (replies : List Reply) (q : MeterPort)
      → RepliesTo Steps p events replies q → AnswersCalls IsDurable p q
  replied_answered p events replies q replied =
      answered_by p events replies q [] q replied (starts_refl q.known.seen) (omega arith)
      (sym (append-nil (calls_by q.known.number q.known.seen)))

  refused_answered : (p : MeterPort) (events : List Event) (replies : List Reply)
      (fault : CallFault) (q : MeterPort)
      → RefusesLast Steps p events replies fault q → AnswersCalls IsDurable p q
  refused_answered p events replies fault q r =
      let begins = journal_seen r.before r.event (Err fault) q r.refused in
      elim (journal_refused r.before r.event fault q r.refused) [
        | inl none ↦ answered_by p r.taken replies r.before [] q r.replied begins (omega arith) none
        | inr called ↦ answered_by p r.taken replies r.before
            (entry r.before.known.number r.event called.0 ∷ []) q r.replied begins (omega arith)
            called.1
      ]

  -- a session that waits for the journal has answered its calls once they were on the disk
  pub served_answered : (password : List ℕ) (before : Sides MeterPort)
      (result : Result SessionEnd ServeFault) (after : Sides MeterPort)
      → ServesSession Steps password before result after
      → AnswersCalls IsDurable before.outlets.meter after.outlets.meter
  served_answered password before result after served =
      effect_by Steps (AnswersCalls IsDurable) replied_answered
      refused_answered (plan_of password) served.seen before result after served.effect

  -- the calls of a new port that a client's session went through, or that was returned unused
  pub client_answered : {I O : Type 0} (remaining : I → Option (List ℕ))
      (contents : O → Option (List ℕ)) (password number : List ℕ) (history : Calls)
      → AreCallsOf (ServesClient remaining contents Steps password) number history
      → AreAnswered IsDurable number [] history
  client_answered remaining contents password number history c = elim c.returned [
    | inl unused ↦ record {
      answered = [];
      unanswered = [];
      all = c.calls_are ∙ ap (λ (x : MeterPort). calls_by number x.known.seen) unused ∙ c.fresh;
      most = omega arith;
      front = [];
      begins = (history, refl);
      entered = refl;
      on_disk = λ low. absurd (omega (arith, low));
    }
    | inr session ↦
        let answers = served_answered password _ session.end _ session.serves in
        let N : List ℕ → Type 0 = λ n. AreAnswered IsDurable n (calls_by n c.lent.known.seen)
        c.back.known.seen in
        let E : Calls → Type 0 = λ earlier. AreAnswered IsDurable number earlier
        c.back.known.seen in
        answered_later IsDurable number c.back.known.seen history c.seen c.calls_are
        (subst E c.fresh (subst N c.named answers))
  ]

module _ {I O : Type 0} (remaining : I → Option (List ℕ)) (contents : O → Option (List ℕ))
    (IsDurable : Calls → ℕ → Type 0) (HasEnded : Type 0) (WasRunning : MeterPort → Type 0)
  where
    -- the work of a client's session, by the terms on which it was served
    abbrev pub ByTerms : List ℕ → MeterPort → MeterPort → Type 0
    ByTerms terms = ServesClient remaining contents (steps_by IsDurable HasEnded WasRunning terms)
        (drop 1 terms)

    -- the same by the journal and the password that the terms are made of
    abbrev pub ByJournal : {D : Type 0} → Option D → List ℕ → MeterPort → MeterPort → Type 0
    ByJournal journal password = ServesClient remaining contents
        (client_steps IsDurable HasEnded WasRunning journal) password

    pub by_journal : {D : Type 0} (journal : Option D) (password : List ℕ) (p q : MeterPort)
        → ByTerms (client_terms journal password) p q → ByJournal journal password p q
    by_journal None password p q session = session
    by_journal (Some given) password p q session = session

    pub by_terms : {D : Type 0} (journal : Option D) (password : List ℕ) (p q : MeterPort)
        → ByJournal journal password p q → ByTerms (client_terms journal password) p q
    by_terms None password p q session = session
    by_terms (Some given) password p q session = session

    -- the port of a client's session remains the same one
    pub terms_same : (terms : List ℕ) (p q : MeterPort) → ByTerms terms p q → IsSame p q
    terms_same [] p q session = client_same remaining contents PortSteps port_steps [] p q session
    terms_same (zero ∷ password) p q session =
        client_same remaining contents PortSteps port_steps password p q session
    terms_same (suc n ∷ password) p q session =
        client_same remaining contents (Steps IsDurable HasEnded WasRunning)
        (journal_steps IsDurable HasEnded WasRunning) password p q session
