-- How each call brings a session further.
use Rattle.std.proofs.Common.{◌≡◌, ◌⊎◌, ◌<◌, ℕ, true, false, true≢false, is_some, IfOk, IsErrAnd}
use Rattle.std.proofs.Common.{IfErr, Option, Some, None, List, [], ◌∷◌, ◌++◌, Result, Ok, Err, refl}
use Rattle.std.proofs.Common.{sym, ap, ◌∙◌, subst, inl, inr, ⊎_elim, append_assoc, append-nil}
use Rattle.std.specs.List.{flat_map}
use Rattle.std.specs.Io.KnownBytes.{Appends}
use Rattle.std.proofs.KnownBytes.{Appends-nil, Appends-trans}
use Rattle.std.proofs.lemmas.Grind.{flat_map-append}
use Rattle.session_io.specs.Meters.{RepliesTo, RefusesLast}
use Rattle.session_io.specs.Serving.{Plan, WritesTexts, DoesAll, StopsShort, IsRefused, IsUnwritten}
use Rattle.session_io.specs.Serving.{Stops, plan_of, remaining_plan, work_for}
use Rattle.session_io.specs.Sides.{Output, Outlets}
use Rattle.session_io.specs.Settling.{fault_of, FailsToWrite, HasDone, Settles}
use Rattle.session_io.specs.declared.fault.ServeFault.{ServeFault}
use Rattle.session_io.specs.declared.fault.ServeFault.TheVariants as fault
use Rattle.session_io.proofs.Replies.{replied_more, replied_on, refused_on}
use Rattle.relay_events.specs.declared.event.Event.{Event}
use Rattle.relay_events.specs.declared.reply.Reply.{Reply}
use Rattle.session_core.specs.Progress.{Owes, Feeds, Finishes, Steps, Takes, AnswersBy, IsQuiet}
use Rattle.session_core.specs.Progress.{IsAwaiting, IsOver}
use Rattle.session_core.specs.Remaining.{still_asks, still_sends, still_ends, is_asking}
use Rattle.session_core.specs.Remaining.{reported_end, is_finished, end_in, is_awaiting}
use Rattle.session_core.specs.declared.end.SessionEnd.{SessionEnd}
use Rattle.session_core.specs.declared.session.Session.{Session}
use Rattle.session_core.specs.declared.task.SessionTask.{SessionTask}
use Rattle.session_core.specs.declared.task.SessionTask.TheVariants as task
use Rattle.turn_lock.specs.declared.call_fault.CallFault.{CallFault}
use Rattle.turn_lock.specs.declared.call_fault.CallFault.TheVariants as call

-- ---- texts written one after the other

wrote_more : (written_as : List ℕ → List ℕ) (a b c : Output) (sent : List (List ℕ)) (text : List ℕ)
    → WritesTexts written_as sent a b → Appends b.written c.written (written_as text)
    → WritesTexts written_as (sent ++ text ∷ []) a c
wrote_more written_as a b c sent text before now =
    subst (Appends a.written c.written)
    (sym (flat_map-append written_as sent (text ∷ [])
    ∙ ap (λ (bytes : List ℕ). flat_map written_as sent ++ bytes)
    (append-nil (written_as text))))
    (Appends-trans a.written b.written c.written (flat_map written_as sent) (written_as text) before
    now)

wrote_on : (written_as : List ℕ → List ℕ) (a b c : Output) (sent more : List (List ℕ))
    → WritesTexts written_as sent a b → WritesTexts written_as more b c
    → WritesTexts written_as (sent ++ more) a c
wrote_on written_as a b c sent more before now =
    subst (Appends a.written c.written) (sym (flat_map-append written_as sent more))
    (Appends-trans a.written b.written c.written (flat_map written_as sent)
    (flat_map written_as more) before now)

-- ---- the start

pub reached_new : {M : Type 0} {steps : M → Event → Result Reply CallFault → M
    → Type 0} {written_as : List ℕ → List ℕ} (password : List ℕ) (s : Session) (before : Outlets M)
    → Owes password s → HasDone steps written_as (plan_of password) before [] s before
reached_new password s before owes = record {
  asked = [];
  replies = [];
  sent = [];
  asks_rest = λ more. sym (owes.asks more);
  sends_rest = λ more later. sym (owes.sends more later);
  ends_rest = λ more. sym (owes.ends more);
  replied = refl;
  wrote = Appends-nil before.output.written;
}

pub reached_none : {M : Type 0} {steps : M → Event → Result Reply CallFault → M
    → Type 0} {written_as : List ℕ → List ℕ} (s : Session) (before : Outlets M)
    → HasDone steps written_as (remaining_plan s) before [] s before
reached_none s before = record {
  asked = [];
  replies = [];
  sent = [];
  asks_rest = λ more. refl;
  sends_rest = λ more later. refl;
  ends_rest = λ more. refl;
  replied = refl;
  wrote = Appends-nil before.output.written;
}

-- the plan for this input, whatever follows it
abbrev pub fixed : Plan → List ℕ → Plan
fixed plan input = record {
  asks = λ _. plan.asks input;
  sends = λ _. plan.sends input;
  ends = λ _. plan.ends input;
}

-- a writer and a meter
abbrev pub pair : {M : Type 0} → Output → M → Outlets M
pair output meter = record { output = output; meter = meter }

module _ {M : Type 0} {steps : M → Event → Result Reply CallFault → M → Type 0} {written_as : List ℕ
    → List ℕ}
    {plan : Plan} {before : Outlets M} where
  -- ---- one step further

  pub reached_fed : (seen bytes : List ℕ) (old new : Session) (now : Outlets M)
      → HasDone steps written_as plan before seen old now → Feeds old bytes new
      → HasDone steps written_as plan before (seen ++ bytes) new now
  reached_fed seen bytes old new now r fed = record {
    asked = r.asked;
    replies = r.replies;
    sent = r.sent;
    asks_rest = λ more. ap plan.asks (append_assoc seen bytes more) ∙ r.asks_rest (bytes ++ more)
        ∙ ap (λ (es : List Event). r.asked ++ es) (sym (fed.asks more));
    sends_rest = λ more later. ap (λ (input : List ℕ). plan.sends input (r.replies ++ later))
        (append_assoc seen bytes more)
        ∙ r.sends_rest (bytes ++ more) later ∙ ap (λ (ts : List (List ℕ)). r.sent
        ++ ts) (sym (fed.sends more later));
    ends_rest = λ more. ap plan.ends (append_assoc seen bytes more) ∙ r.ends_rest (bytes ++ more)
        ∙ sym (fed.ends more);
    replied = r.replied;
    wrote = r.wrote;
  }

  pub reached_steps : (seen : List ℕ) (old new : Session) (now : Outlets M)
      → HasDone steps written_as plan before seen old now → Steps old [] [] new
      → HasDone steps written_as plan before seen new now
  reached_steps seen old new now r st = record {
    asked = r.asked;
    replies = r.replies;
    sent = r.sent;
    asks_rest = λ more. r.asks_rest more ∙ ap (λ (es : List Event). r.asked ++ es) (st.asks more);
    sends_rest = λ more later. r.sends_rest more later
        ∙ ap (λ (ts : List (List ℕ)). r.sent ++ ts) (st.sends more later);
    ends_rest = λ more. r.ends_rest more ∙ st.ends more;
    replied = r.replied;
    wrote = r.wrote;
  }

  pub reached_sent : (seen : List ℕ) (old new : Session) (now : Outlets M) (output : Output)
      (text : List ℕ)
      → HasDone steps written_as plan before seen old now → Steps old [] (text ∷ []) new
      → Appends now.output.written output.written (written_as text)
      → HasDone steps written_as plan before seen new (pair output now.meter)
  reached_sent seen old new now output text r st wrote = record {
    asked = r.asked;
    replies = r.replies;
    sent = r.sent ++ text ∷ [];
    asks_rest = λ more. r.asks_rest more ∙ ap (λ (es : List Event). r.asked ++ es) (st.asks more);
    sends_rest = λ more later. r.sends_rest more later
        ∙ ap (λ (ts : List (List ℕ)). r.sent ++ ts) (st.sends more later)
        ∙ sym (append_assoc r.sent (text ∷ []) (still_sends new more later));
    ends_rest = λ more. r.ends_rest more ∙ st.ends more;
    replied = r.replied;
    wrote = wrote_more written_as before.output now.output output r.sent text r.wrote wrote;
  }

  pub reached_asked : (seen : List ℕ) (old middle new : Session) (now : Outlets M) (meter : M)
      (event : Event) (reply : Reply)
      → HasDone steps written_as plan before seen old now → Steps old (event ∷ []) [] middle
      → steps now.meter event (Ok reply) meter → Takes middle reply new
      → HasDone steps written_as plan before seen new (pair now.output meter)
  reached_asked seen old middle new now meter event reply r st step takes = record {
    asked = r.asked ++ event ∷ [];
    replies = r.replies ++ reply ∷ [];
    sent = r.sent;
    asks_rest = λ more. r.asks_rest more
        ∙ ap (λ (es : List Event). r.asked ++ es) (st.asks more
        ∙ ap (λ (es : List Event). event ∷ es) (sym (takes.asks more)))
        ∙ sym (append_assoc r.asked (event ∷ []) (still_asks new more));
    sends_rest = λ more later. ap (plan.sends (seen ++ more))
        (append_assoc r.replies (reply ∷ []) later) ∙ r.sends_rest more (reply ∷ later)
        ∙ ap (λ (ts : List (List ℕ)). r.sent ++ ts) (st.sends more (reply ∷ later)
        ∙ sym (takes.sends more later));
    ends_rest = λ more. r.ends_rest more ∙ st.ends more ∙ sym (takes.ends more);
    replied = replied_more steps before.meter now.meter meter r.asked r.replies event reply
        r.replied step;
    wrote = r.wrote;
  }

  -- an attribute was asked for, and its answer was written
  pub reached_answered : (seen : List ℕ) (old middle new : Session) (now : Outlets M) (meter : M)
      (output : Output) (event : Event) (reply : Reply) (text : List ℕ)
      → HasDone steps written_as plan before seen old now → Steps old (event ∷ []) [] middle
      → steps now.meter event (Ok reply) meter
      → AnswersBy middle reply text new → Appends now.output.written output.written
      (written_as text)
      → HasDone steps written_as plan before seen new (pair output meter)
  reached_answered seen old middle new now meter output event reply text r st step answered wrote =
      reached_sent seen answered.between new (pair now.output meter) output text
      (reached_asked seen old middle answered.between now meter event reply r st step
      answered.takes)
      answered.sends wrote

  -- after the end of the input, no bytes change anything
  pub reached_finished : (seen : List ℕ) (old new : Session) (now : Outlets M)
      → HasDone steps written_as plan before seen old now → Finishes old new
      → HasDone steps written_as (fixed plan seen) before [] new now
  reached_finished seen old new now r finished = record {
    asked = r.asked;
    replies = r.replies;
    sent = r.sent;
    asks_rest = λ more. ap plan.asks (sym (append-nil seen)) ∙ r.asks_rest []
        ∙ ap (λ (es : List Event). r.asked ++ es) (sym (finished.asks more));
    sends_rest = λ more later. ap (λ (input : List ℕ). plan.sends input (r.replies ++ later))
        (sym (append-nil seen))
        ∙ r.sends_rest [] later ∙ ap (λ (ts : List (List ℕ)). r.sent
        ++ ts) (sym (finished.sends more later));
    ends_rest = λ more. ap plan.ends (sym (append-nil seen)) ∙ r.ends_rest []
        ∙ sym (finished.ends more);
    replied = r.replied;
    wrote = r.wrote;
  }

  -- two stretches of a session, one after the other
  pub reached_on : (seen bytes : List ℕ) (old new : Session) (now after : Outlets M)
      → HasDone steps written_as plan before seen old now
      → HasDone steps written_as (remaining_plan old) now bytes new after
      → HasDone steps written_as plan before (seen ++ bytes) new after
  reached_on seen bytes old new now after r next = record {
    asked = r.asked ++ next.asked;
    replies = r.replies ++ next.replies;
    sent = r.sent ++ next.sent;
    asks_rest = λ more. ap plan.asks (append_assoc seen bytes more) ∙ r.asks_rest (bytes ++ more)
        ∙ ap (λ (es : List Event). r.asked ++ es) (next.asks_rest more)
        ∙ sym (append_assoc r.asked next.asked (still_asks new more));
    sends_rest = λ more later. ap (λ (input : List ℕ). plan.sends input ((r.replies ++ next.replies)
        ++ later)) (append_assoc seen bytes more)
        ∙ ap (plan.sends (seen ++ (bytes ++ more))) (append_assoc r.replies next.replies later)
        ∙ r.sends_rest (bytes ++ more) (next.replies ++ later)
        ∙ ap (λ (ts : List (List ℕ)). r.sent ++ ts) (next.sends_rest more later)
        ∙ sym (append_assoc r.sent next.sent (still_sends new more later));
    ends_rest = λ more. ap plan.ends (append_assoc seen bytes more) ∙ r.ends_rest (bytes ++ more)
        ∙ next.ends_rest more;
    replied = replied_on steps before.meter now.meter after.meter r.asked next.asked r.replies
        next.replies r.replied next.replied;
    wrote = wrote_on written_as before.output now.output after.output r.sent next.sent
        r.wrote next.wrote;
  }

  -- ---- the end of a session

  -- the texts sent so far are those for the replies so far
  sent_so_far : (seen : List ℕ) (s : Session) (now : Outlets M)
      (r : HasDone steps written_as plan before seen s now) (more : List ℕ)
      → plan.sends (seen ++ more) r.replies ≡ r.sent ++ still_sends s more []
  sent_so_far seen s now r more = ap (plan.sends (seen ++ more)) (sym (append-nil r.replies))
      ∙ r.sends_rest more []

  -- a session that has nothing left to do has done everything
  pub does_all : (seen more : List ℕ) (s : Session) (now : Outlets M)
      → HasDone steps written_as plan before seen s now → still_asks s more ≡ []
      → ((replies : List Reply) → still_sends s more replies ≡ [])
      → DoesAll steps written_as (work_for plan (seen ++ more)) before now
  does_all seen more s now r no_asks no_sends =
      let all_asked : plan.asks (seen ++ more) ≡ r.asked =
      r.asks_rest more ∙ ap (λ (es : List Event). r.asked ++ es) no_asks ∙ append-nil r.asked in
      let all_sent : plan.sends (seen ++ more) r.replies ≡ r.sent =
      sent_so_far seen s now r more ∙ ap (λ (ts : List (List ℕ)). r.sent ++ ts) (no_sends [])
      ∙ append-nil r.sent in
      record {
        replies = r.replies;
        replied = subst (λ (es : List Event). RepliesTo steps before.meter es r.replies now.meter)
            (sym all_asked) r.replied;
        wrote = subst (λ (ts : List (List ℕ)). WritesTexts written_as ts before.output now.output)
            (sym all_sent) r.wrote;
      }

  -- out of memory before the next task
  pub starved : (seen more : List ℕ) (s : Session) (now : Outlets M)
      → HasDone steps written_as plan before seen s now
      → StopsShort steps written_as (work_for plan (seen ++ more)) before now
  starved seen more s now r = record {
    asked = r.asked;
    later = still_asks s more;
    all_asked = r.asks_rest more;
    replies = r.replies;
    replied = inl r.replied;
    sent = r.sent;
    unsent = still_sends s more [];
    all_sent = sent_so_far seen s now r more;
    wrote = r.wrote;
  }

  -- the meter refused an event
  refused_next : (seen : List ℕ) (s : Session) (now : Outlets M) (meter : M) (event : Event)
      (f : CallFault)
      (r : HasDone steps written_as plan before seen s now) → steps now.meter event (Err f) meter
      → RefusesLast steps before.meter (r.asked ++ event ∷ []) r.replies f meter
  refused_next seen s now meter event f r step = record {
    taken = r.asked;
    event = event;
    all = refl;
    before = now.meter;
    replied = r.replied;
    refused = step;
  }

  -- one more event, the next of the session's
  asked_next : (seen more : List ℕ) (old new : Session) (now : Outlets M) (event : Event)
      (r : HasDone steps written_as plan before seen old now) → Steps old (event ∷ []) [] new
      → plan.asks (seen ++ more) ≡ (r.asked ++ event ∷ []) ++ still_asks new more
  asked_next seen more old new now event r st =
      r.asks_rest more ∙ ap (λ (es : List Event). r.asked ++ es) (st.asks more)
      ∙ sym (append_assoc r.asked (event ∷ []) (still_asks new more))

  -- the meter refused an event, and all answers before it were written
  refused_unsent : (seen more : List ℕ) (old new : Session) (now : Outlets M) (meter : M)
      (event : Event) (f : CallFault)
      → HasDone steps written_as plan before seen old now → Steps old (event ∷ []) [] new
      → IsAwaiting new → steps now.meter event (Err f) meter
      → IsRefused steps written_as f (work_for plan (seen ++ more)) before (pair now.output meter)
  refused_unsent seen more old new now meter event f r st is_awaiting step =
      let all_sent : plan.sends (seen ++ more) r.replies ≡ r.sent =
      sent_so_far seen old now r more ∙ ap (λ (ts : List (List ℕ)). r.sent ++ ts) (st.sends more []
      ∙ is_awaiting.sends more) ∙ append-nil r.sent in
      record {
        asked = r.asked ++ event ∷ [];
        later = still_asks new more;
        all_asked = asked_next seen more old new now event r st;
        replies = r.replies;
        refused = refused_next seen old now meter event f r step;
        wrote = subst (λ (ts : List (List ℕ)). WritesTexts written_as ts before.output now.output)
            (sym all_sent) r.wrote;
      }

  pub refused : (seen more : List ℕ) (old new : Session) (now : Outlets M) (meter : M)
      (event : Event) (f : CallFault) (given : ServeFault)
      → HasDone steps written_as plan before seen old now → Steps old (event ∷ []) [] new
      → IsAwaiting new
      → steps now.meter event (Err f) meter → given ≡ fault_of f
      → Stops steps written_as (work_for plan (seen ++ more)) before given (pair now.output meter)
  refused seen more old new now meter event call.Memory given r st is_awaiting step same =
      subst (λ (g : ServeFault). Stops steps written_as (work_for plan (seen ++ more)) before g
      (pair now.output meter)) (sym same)
      (record {
        asked = r.asked ++ event ∷ [];
        later = still_asks new more;
        all_asked = asked_next seen more old new now event r st;
        replies = r.replies;
        replied = inr (refused_next seen old now meter event call.Memory r step);
        sent = r.sent;
        unsent = still_sends new more [];
        all_sent = sent_so_far seen old now r more
            ∙ ap (λ (ts : List (List ℕ)). r.sent ++ ts) (st.sends more []);
        wrote = r.wrote;
      })
  refused seen more old new now meter event call.Exhausted given r st is_awaiting step same =
      subst (λ (g : ServeFault). Stops steps written_as (work_for plan (seen ++ more)) before g
      (pair now.output meter)) (sym same)
      (refused_unsent seen more old new now meter event call.Exhausted r st is_awaiting step)
  refused seen more old new now meter event call.Journal given r st is_awaiting step same =
      subst (λ (g : ServeFault). Stops steps written_as (work_for plan (seen ++ more)) before g
      (pair now.output meter)) (sym same)
      (refused_unsent seen more old new now meter event call.Journal r st is_awaiting step)

  -- out of memory, for a fault that a call's error was converted to
  pub starved_by : {X : Type 0} (seen more : List ℕ) (old new : Session) (now : Outlets M)
      (result : Result X ServeFault)
      → HasDone steps written_as plan before seen old now → Steps old [] [] new
      → IsErrAnd result (λ f. f ≡ fault.Memory)
      → IfErr result (λ f. Stops steps written_as (work_for plan (seen ++ more)) before f now)
  starved_by seen more old new now (Ok x) r st is = tt
  starved_by seen more old new now (Err f) r st is =
      subst (λ (g : ServeFault). Stops steps written_as (work_for plan (seen ++ more)) before g now)
      (sym is)
      (starved seen more new now (reached_steps seen old new now r st))

  pub refused_by : {X : Type 0} (seen more : List ℕ) (old new : Session) (now : Outlets M)
      (meter : M) (event : Event) (f : CallFault) (result : Result X ServeFault)
      → HasDone steps written_as plan before seen old now → Steps old (event ∷ []) [] new
      → IsAwaiting new
      → steps now.meter event (Err f) meter → IsErrAnd result (λ g. g ≡ fault_of f)
      → IfErr result (λ g. Stops steps written_as (work_for plan (seen ++ more)) before g
      (pair now.output meter))
  refused_by seen more old new now meter event f (Ok x) r st is_awaiting step is = tt
  refused_by seen more old new now meter event f (Err g) r st is_awaiting step is =
      refused seen more old new now meter event f g r st is_awaiting step is

  -- out of memory while a reply was answered
  pub unanswered : (seen more : List ℕ) (old new : Session) (now : Outlets M) (meter : M)
      (event : Event) (reply : Reply)
      → HasDone steps written_as plan before seen old now → Steps old (event ∷ []) [] new
      → steps now.meter event (Ok reply) meter
      → StopsShort steps written_as (work_for plan (seen ++ more)) before (pair now.output meter)
  unanswered seen more old new now meter event reply r st step = record {
    asked = r.asked ++ event ∷ [];
    later = still_asks new more;
    all_asked = asked_next seen more old new now event r st;
    replies = r.replies ++ reply ∷ [];
    replied = inl (replied_more steps before.meter now.meter meter r.asked r.replies event reply
        r.replied step);
    sent = r.sent;
    unsent = still_sends new more (reply ∷ []);
    all_sent = r.sends_rest more (reply ∷ [])
        ∙ ap (λ (ts : List (List ℕ)). r.sent ++ ts) (st.sends more (reply ∷ []));
    wrote = r.wrote;
  }

  -- a frame was not written
  unsent : (seen more : List ℕ) (old : Session) (now : Outlets M) (output : Output) (f : ServeFault)
      → HasDone steps written_as plan before seen old now
      → now.output.failures ≡ before.output.failures → FailsToWrite now.output f output
      → Stops steps written_as (work_for plan (seen ++ more)) before f (pair output now.meter)
  unsent seen more old now output fault.Read r even fails = absurd fails
  unsent seen more old now output fault.Write r even fails = record {
    asked = r.asked;
    later = still_asks old more;
    all_asked = r.asks_rest more;
    replies = r.replies;
    replied = r.replied;
    failed = subst (λ (n : ℕ). n < output.failures) even fails;
  }
  unsent seen more old now output fault.Memory r even fails = record {
    asked = r.asked;
    later = still_asks old more;
    all_asked = r.asks_rest more;
    replies = r.replies;
    replied = inl r.replied;
    sent = r.sent;
    unsent = still_sends old more [];
    all_sent = sent_so_far seen old now r more;
    wrote = subst (Appends before.output.written output.written)
        (append-nil (flat_map written_as r.sent))
        (Appends-trans before.output.written now.output.written output.written
        (flat_map written_as r.sent) [] r.wrote fails);
  }
  unsent seen more old now output fault.Exhausted r even fails = absurd fails
  unsent seen more old now output fault.Listen r even fails = absurd fails
  unsent seen more old now output fault.Journal r even fails = absurd fails

  pub unsent_by : {X : Type 0} (seen more : List ℕ) (old : Session) (now : Outlets M)
      (output : Output) (f : ServeFault) (result : Result X ServeFault)
      → HasDone steps written_as plan before seen old now
      → now.output.failures ≡ before.output.failures → FailsToWrite now.output f output
      → IsErrAnd result (λ g. g ≡ f)
      → IfErr result (λ g. Stops steps written_as (work_for plan (seen ++ more)) before g
      (pair output now.meter))
  unsent_by seen more old now output f (Ok x) r even fails is = tt
  unsent_by seen more old now output f (Err g) r even fails is =
      subst (λ (h : ServeFault). Stops steps written_as (work_for plan (seen ++ more)) before h
      (pair output now.meter)) (sym is)
      (unsent seen more old now output f r even fails)

  -- ---- errors in a later stretch

  short_on : (seen more : List ℕ) (s : Session) (now after : Outlets M)
      → HasDone steps written_as plan before seen s now
      → StopsShort steps written_as (work_for (remaining_plan s) more) now after
      → StopsShort steps written_as (work_for plan (seen ++ more)) before after
  short_on seen more s now after r stop = record {
    asked = r.asked ++ stop.asked;
    later = stop.later;
    all_asked = r.asks_rest more ∙ ap (λ (es : List Event). r.asked ++ es) stop.all_asked
        ∙ sym (append_assoc r.asked stop.asked stop.later);
    replies = r.replies ++ stop.replies;
    replied = ⊎_elim
        (λ (ran : RepliesTo steps now.meter stop.asked stop.replies after.meter). inl
        (replied_on steps before.meter now.meter after.meter r.asked stop.asked r.replies
        stop.replies r.replied ran))
        (λ (ran : RefusesLast steps now.meter stop.asked stop.replies call.Memory after.meter).
        inr (refused_on steps before.meter now.meter after.meter r.asked stop.asked r.replies
        stop.replies call.Memory r.replied ran)) stop.replied;
    sent = r.sent ++ stop.sent;
    unsent = stop.unsent;
    all_sent = r.sends_rest more stop.replies
        ∙ ap (λ (ts : List (List ℕ)). r.sent ++ ts) stop.all_sent
        ∙ sym (append_assoc r.sent stop.sent stop.unsent);
    wrote = wrote_on written_as before.output now.output after.output r.sent stop.sent
        r.wrote stop.wrote;
  }

  refused_later : (seen more : List ℕ) (s : Session) (now after : Outlets M) (f : CallFault)
      → HasDone steps written_as plan before seen s now
      → IsRefused steps written_as f (work_for (remaining_plan s) more) now after
      → IsRefused steps written_as f (work_for plan (seen ++ more)) before after
  refused_later seen more s now after f r stop = record {
    asked = r.asked ++ stop.asked;
    later = stop.later;
    all_asked = r.asks_rest more ∙ ap (λ (es : List Event). r.asked ++ es) stop.all_asked
        ∙ sym (append_assoc r.asked stop.asked stop.later);
    replies = r.replies ++ stop.replies;
    refused = refused_on steps before.meter now.meter after.meter r.asked stop.asked r.replies
        stop.replies f r.replied stop.refused;
    wrote = subst (λ (ts : List (List ℕ)). WritesTexts written_as ts before.output after.output)
        (sym (r.sends_rest more stop.replies))
        (wrote_on written_as before.output now.output after.output r.sent
        (still_sends s more stop.replies) r.wrote stop.wrote);
  }

  unwritten_on : (seen more : List ℕ) (s : Session) (now after : Outlets M)
      → HasDone steps written_as plan before seen s now → now.output.failures
      ≡ before.output.failures
      → IsUnwritten steps written_as (work_for (remaining_plan s) more) now after
      → IsUnwritten steps written_as (work_for plan (seen ++ more)) before after
  unwritten_on seen more s now after r even stop = record {
    asked = r.asked ++ stop.asked;
    later = stop.later;
    all_asked = r.asks_rest more ∙ ap (λ (es : List Event). r.asked ++ es) stop.all_asked
        ∙ sym (append_assoc r.asked stop.asked stop.later);
    replies = r.replies ++ stop.replies;
    replied = replied_on steps before.meter now.meter after.meter r.asked stop.asked r.replies
        stop.replies r.replied stop.replied;
    failed = subst (λ (n : ℕ). n < after.output.failures) even stop.failed;
  }

  pub stops_on : (seen more : List ℕ) (s : Session) (now after : Outlets M) (f : ServeFault)
      → HasDone steps written_as plan before seen s now → now.output.failures
      ≡ before.output.failures
      → Stops steps written_as (work_for (remaining_plan s) more) now f after
      → Stops steps written_as (work_for plan (seen ++ more)) before f after
  stops_on seen more s now after fault.Read r even stop = absurd stop
  stops_on seen more s now after fault.Write r even stop =
      unwritten_on seen more s now after r even stop
  stops_on seen more s now after fault.Memory r even stop = short_on seen more s now after r stop
  stops_on seen more s now after fault.Exhausted r even stop =
      refused_later seen more s now after call.Exhausted r stop
  stops_on seen more s now after fault.Listen r even stop = absurd stop
  stops_on seen more s now after fault.Journal r even stop =
      refused_later seen more s now after call.Journal r stop

  pub does_all_on : (seen more : List ℕ) (s : Session) (now after : Outlets M)
      → HasDone steps written_as plan before seen s now
      → DoesAll steps written_as (work_for (remaining_plan s) more) now after
      → DoesAll steps written_as (work_for plan (seen ++ more)) before after
  does_all_on seen more s now after r all = record {
    replies = r.replies ++ all.replies;
    replied = subst (λ (es : List Event). RepliesTo steps before.meter es (r.replies
        ++ all.replies) after.meter) (sym (r.asks_rest more))
        (replied_on steps before.meter now.meter after.meter r.asked (still_asks s more) r.replies
        all.replies r.replied all.replied);
    wrote = subst (λ (ts : List (List ℕ)). WritesTexts written_as ts before.output after.output)
        (sym (r.sends_rest more all.replies))
        (wrote_on written_as before.output now.output after.output r.sent
        (still_sends s more all.replies) r.wrote all.wrote);
  }

pub steps_none : (s : Session) → Steps s [] [] s
steps_none s = record {
  asks = λ more. refl;
  sends = λ more replies. refl;
  ends = λ more. refl;
  finished = refl;
}

-- ---- everything that the input asks for was done

by_task : (task : SessionTask) (end : SessionEnd) → end_in task ≡ Some end → is_awaiting task
    ≡ false
by_task task.Listen end over = refl
by_task (task.Read joined) end over = refl
by_task (task.Await asked) end over = absurd (true≢false (ap is_some (sym over)))
by_task (task.Say due) end over = refl
by_task (task.Send text) end over = refl
by_task (task.Over ending) end over = refl

-- a session that is over awaits no reply
silent_over : (s : Session) (end : SessionEnd) → IsOver end s → is_asking s ≡ false
unfolding is_asking reported_end
silent_over s end over = by_task s.task end over.over

module _ {M : Type 0} (steps : M → Event → Result Reply CallFault → M → Type 0) (written_as : List ℕ
    → List ℕ) where
  pub settled_quiet : (old s new : Session) (before after : Outlets M)
      → HasDone steps written_as (remaining_plan old) before [] s after
      → is_asking s ≡ false → is_finished s ≡ is_finished old
      → Steps s [] [] new → ((is_asking s ≡ true) × IsAwaiting new) ⊎ IsQuiet new
      → Settles steps written_as old before [] None new after
  settled_quiet old s new before after r silent finished st (inl asking) =
      absurd (true≢false (sym asking.0 ∙ silent))
  settled_quiet old s new before after r silent finished st (inr quiet) = record {
    reached = reached_steps [] s new after r st;
    settled = record { asks = quiet.asks; sends = quiet.sends };
    done = (quiet.goes_on, quiet.ends);
    silent = quiet.silent;
    finished = st.finished ∙ finished;
  }

  pub settled_over : (old s new : Session) (before after : Outlets M) (end : SessionEnd)
      → HasDone steps written_as (remaining_plan old) before [] s after
      → is_finished s ≡ is_finished old
      → Steps s [] [] new → IsOver end new
      → Settles steps written_as old before [] (Some end) new after
  settled_over old s new before after end r finished st over = record {
    reached = reached_steps [] s new after r st;
    settled = record { asks = over.asks []; sends = over.sends [] };
    done = over;
    silent = silent_over new end over;
    finished = st.finished ∙ finished;
  }

  -- an idle session has nothing to do
  settled_idle : (s : Session) (before : Outlets M) → IsQuiet s
      → Settles steps written_as s before [] None s before
  settled_idle s before quiet = settled_quiet s s s before before (reached_none s before)
      quiet.silent refl (steps_none s) (inr quiet)

  -- the effect of bytes that were fed first
  settled_fed : (old middle new : Session) (bytes : List ℕ) (before after : Outlets M)
      (end : Option SessionEnd)
      → Feeds old bytes middle → Settles steps written_as middle before [] end new after
      → Settles steps written_as old before bytes end new after
  settled_fed old middle new bytes before after end fed settled = record {
    reached = subst (λ (seen : List ℕ). HasDone steps written_as (remaining_plan old) before seen
        new after) (append-nil bytes)
        (reached_on bytes [] middle new before after
        (reached_fed [] bytes old middle before (reached_none old before) fed) settled.reached);
    settled = settled.settled;
    done = settled.done;
    silent = settled.silent;
    finished = settled.finished ∙ fed.finished;
  }

  -- and after these bytes there is nothing to do
  pub settled_by_feeding : (old new : Session) (bytes : List ℕ) (before : Outlets M)
      → Feeds old bytes new → IsQuiet new
      → Settles steps written_as old before bytes None new before
  settled_by_feeding old new bytes before fed quiet =
      settled_fed old new new bytes before before None fed (settled_idle new before quiet)

  pub settled_in : (old middle new : Session) (bytes : List ℕ) (before after : Outlets M)
      (result : Result (Option SessionEnd) ServeFault)
      → Feeds old bytes middle → IfOk result (λ end. Settles steps written_as middle before [] end
      new after)
      → IfOk result (λ end. Settles steps written_as old before bytes end new after)
  settled_in old middle new bytes before after (Ok end) fed settled =
      settled_fed old middle new bytes before after end fed settled
  settled_in old middle new bytes before after (Err f) fed settled = tt

  pub stopped_in : (old middle : Session) (bytes : List ℕ) (before after : Outlets M)
      (result : Result (Option SessionEnd) ServeFault)
      → Feeds old bytes middle → IfErr result
      (λ f. Stops steps written_as (work_for (remaining_plan middle) []) before f after)
      → IfErr result (λ f. Stops steps written_as (work_for (remaining_plan old) bytes)
      before f after)
  stopped_in old middle bytes before after (Ok end) fed stops = tt
  stopped_in old middle bytes before after (Err f) fed stops =
      subst (λ (seen : List ℕ). Stops steps written_as (work_for (remaining_plan old) seen) before f
      after) (append-nil bytes)
      (stops_on bytes [] middle before after f
      (reached_fed [] bytes old middle before (reached_none old before) fed) refl stops)

  -- the input ended
  reached_end : (old middle new : Session) (before after : Outlets M) (end : Option SessionEnd)
      → Finishes old middle → Settles steps written_as middle before [] end new after
      → HasDone steps written_as (fixed (remaining_plan old) []) before [] new after
  reached_end old middle new before after end finishes settled =
      reached_on [] [] middle new before after
      (reached_finished [] old middle before (reached_none old before) finishes) settled.reached

  pub ended_all : (old middle new : Session) (before after : Outlets M) (end : Option SessionEnd)
      → Finishes old middle → Settles steps written_as middle before [] end new after
      → DoesAll steps written_as (work_for (remaining_plan old) []) before after
  ended_all old middle new before after end finishes settled =
      does_all [] [] new after (reached_end old middle new before after end finishes settled)
      settled.settled.asks settled.settled.sends

  pub ended_so : (old middle new : Session) (before after : Outlets M) (end : SessionEnd)
      → Finishes old middle → Settles steps written_as middle before [] (Some end) new after
      → end ≡ still_ends old []
  ended_so old middle new before after end finishes settled =
      sym ((reached_end old middle new before after (Some end) finishes settled).ends_rest []
      ∙ settled.done.ends [])

  pub ended_stop : (old middle : Session) (before after : Outlets M) (f : ServeFault)
      → Finishes old middle → Stops steps written_as (work_for (remaining_plan middle) []) before f
      after
      → Stops steps written_as (work_for (remaining_plan old) []) before f after
  ended_stop old middle before after f finishes stops =
      stops_on [] [] middle before after f (reached_finished [] old middle before
      (reached_none old before) finishes) refl stops
