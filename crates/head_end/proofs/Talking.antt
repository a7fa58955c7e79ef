-- A client's conversation, by the log of its connection.
use Rattle.std.proofs.Common.{◌≡◌, ◌≢◌, ◌≤◌, ◌+◌, ℕ, zero, suc, true, false, List, [], ◌∷◌, ◌++◌, length, take, Some, None, Ok, Err, refl, sym, ap, subst, ◌∙◌, append-nil, append_assoc, inl, inr, add-one, arith}
use Rattle.std.specs.Prelude.{Option, Result, IsSome}
use Rattle.std.specs.Result.{IsErr}
use Rattle.std.specs.List.{concat}
use Rattle.counted_io.specs.declared.fault.StreamFault.{StreamFault}
use Rattle.client_core.specs.declared.client.Client.{Client}
use Rattle.client_core.specs.declared.job.Verb.{Verb}
use Rattle.client_core.specs.declared.job.Outcome.{Outcome}
use Rattle.client_core.specs.declared.progress.Progress.{Progress}
use Rattle.client_core.specs.Outcomes.{progress_of, outcome_after, outcome_of, due_frames}
use Rattle.client_core.specs.Outcomes.{is_served}
use Rattle.client_core.specs.Texts.{text_at}
use Rattle.client_core.specs.Standing.{Stands, GivesNextMessage, Feeds, Tells}
use Rattle.client_core.proofs.Accepting.{accepted_stays}
use Rattle.client_core.proofs.Lookups.{nothing_said}
use Rattle.head_end.specs.Connections.{ended}
use Rattle.head_end.specs.Logs.{Happening, heard, heard_nothing, sent, cut_off, bytes_received, bytes_sent, reads_made, ReadLogs, WriteLogs, IsFront, IsCutOff}
use Rattle.head_end.specs.Wires.{due_text, given_text, IsDueNext, Permits, HasConversed}
use Rattle.head_end.specs.Conversations.{GivesUp, Talks, HasSent, Waits, IsCut, Sends, TurnAfter, TakesTurn, Speaks}
use Rattle.head_end.proofs.Texts.{due_by, given_by, given_within, all_given, three_given, given_front, front_more, due_grows}

-- ---- one more happening

heard_more : (log : List Happening) (bytes : List ℕ)
    → bytes_received (log ++ heard bytes ∷ []) ≡ bytes_received log ++ bytes
unfolding bytes_received
heard_more [] bytes = append-nil bytes
heard_more (heard front ∷ later) bytes = ap (λ (t : List ℕ). front ++ t)
    (heard_more later bytes) ∙ sym (append_assoc front (bytes_received later) bytes)
heard_more (heard_nothing ∷ later) bytes = heard_more later bytes
heard_more (sent front ∷ later) bytes = heard_more later bytes
heard_more (cut_off front ∷ later) bytes = heard_more later bytes

heard_as : (log : List Happening) (next : Happening) → bytes_received (next ∷ []) ≡ []
    → bytes_received (log ++ next ∷ []) ≡ bytes_received log
unfolding bytes_received
heard_as [] next none = none
heard_as (heard front ∷ later) next none = ap (λ (t : List ℕ). front ++ t)
    (heard_as later next none)
heard_as (heard_nothing ∷ later) next none = heard_as later next none
heard_as (sent front ∷ later) next none = heard_as later next none
heard_as (cut_off front ∷ later) next none = heard_as later next none

heard_sent : (log : List Happening) (bytes : List ℕ)
    → bytes_received (log ++ sent bytes ∷ []) ≡ bytes_received log
unfolding bytes_received
heard_sent log bytes = heard_as log (sent bytes) refl

heard_cut : (log : List Happening) (bytes : List ℕ)
    → bytes_received (log ++ cut_off bytes ∷ []) ≡ bytes_received log
unfolding bytes_received
heard_cut log bytes = heard_as log (cut_off bytes) refl

heard_over : (log : List Happening) → bytes_received (log ++ heard_nothing ∷ []) ≡ bytes_received
    log
unfolding bytes_received
heard_over log = heard_as log heard_nothing refl

sent_more : (log : List Happening) (bytes : List ℕ)
    → bytes_sent (log ++ sent bytes ∷ []) ≡ bytes_sent log ++ bytes
unfolding bytes_sent
sent_more [] bytes = append-nil bytes
sent_more (heard front ∷ later) bytes = sent_more later bytes
sent_more (heard_nothing ∷ later) bytes = sent_more later bytes
sent_more (sent front ∷ later) bytes = ap (λ (t : List ℕ). front ++ t) (sent_more later bytes)
    ∙ sym (append_assoc front (bytes_sent later) bytes)
sent_more (cut_off front ∷ later) bytes = ap (λ (t : List ℕ). front ++ t)
    (sent_more later bytes) ∙ sym (append_assoc front (bytes_sent later) bytes)

sent_heard : (log : List Happening) (bytes : List ℕ)
    → bytes_sent (log ++ heard bytes ∷ []) ≡ bytes_sent log
unfolding bytes_sent
sent_heard [] bytes = refl
sent_heard (heard front ∷ later) bytes = sent_heard later bytes
sent_heard (heard_nothing ∷ later) bytes = sent_heard later bytes
sent_heard (sent front ∷ later) bytes = ap (λ (t : List ℕ). front ++ t) (sent_heard later bytes)
sent_heard (cut_off front ∷ later) bytes = ap (λ (t : List ℕ). front ++ t) (sent_heard later bytes)

reads_sent : (log : List Happening) (bytes : List ℕ)
    → reads_made (log ++ sent bytes ∷ []) ≡ reads_made log
unfolding reads_made
reads_sent [] bytes = refl
reads_sent (heard front ∷ later) bytes = ap suc (reads_sent later bytes)
reads_sent (heard_nothing ∷ later) bytes = reads_sent later bytes
reads_sent (sent front ∷ later) bytes = reads_sent later bytes
reads_sent (cut_off front ∷ later) bytes = reads_sent later bytes

reads_heard : (log : List Happening) (bytes : List ℕ)
    → reads_made (log ++ heard bytes ∷ []) ≡ suc (reads_made log)
unfolding reads_made
reads_heard [] bytes = refl
reads_heard (heard front ∷ later) bytes = ap suc (reads_heard later bytes)
reads_heard (heard_nothing ∷ later) bytes = reads_heard later bytes
reads_heard (sent front ∷ later) bytes = reads_heard later bytes
reads_heard (cut_off front ∷ later) bytes = reads_heard later bytes

-- without a read no bytes were received
heard_none : (log : List Happening) → reads_made log ≡ 0 → bytes_received log ≡ []
unfolding reads_made bytes_received
heard_none [] none = refl
heard_none (heard front ∷ later) none = absurd cc
heard_none (heard_nothing ∷ later) none = heard_none later none
heard_none (sent front ∷ later) none = heard_none later none
heard_none (cut_off front ∷ later) none = heard_none later none

-- ---- messages

-- the messages that may be sent, by the progress
due_is : (verb : Verb) (password bytes : List ℕ)
    → due_text verb password bytes ≡ concat (due_by verb password
    (progress_of verb bytes).accepted (is_served (progress_of verb bytes).outcome))
unfolding due_text
due_is verb password bytes = refl

-- one more message after those that a client returned
next_due : (verb : Verb) (password text fed : List ℕ) (given : ℕ)
    → Some text ≡ text_at (due_frames verb password (progress_of verb fed)) given
    → IsFront (given_text verb password given ++ text) (due_text verb password fed)
next_due verb password text fed given is =
    let all = given_front verb password (progress_of verb fed).accepted (is_served
    (progress_of verb fed).outcome) (suc given)
    (given_within verb password text (progress_of verb fed).accepted (is_served
    (progress_of verb fed).outcome) given is) in
    record {
      rest = all.rest;
      parts =
          due_is verb password fed ∙ all.parts
          ∙ ap (λ (t : List ℕ). t ++ all.rest) (sym (given_by verb password text
          (progress_of verb fed).accepted (is_served (progress_of verb fed).outcome) given is));
    }

due_in : (verb : Verb) (password text : List ℕ) (log : List Happening) (given : ℕ)
    → bytes_sent log ≡ given_text verb password given
    → Some text ≡ text_at (due_frames verb password (progress_of verb (bytes_received log))) given
    → IsDueNext verb password log text
due_in verb password text log given sent_is is =
    subst (λ (t : List ℕ). IsFront (t ++ text) (due_text verb password (bytes_received log)))
    (sym sent_is) (next_due verb password text (bytes_received log) given is)

-- all messages that may be sent were returned
all_sent : (verb : Verb) (password : List ℕ) (log : List Happening) (given : ℕ)
    → bytes_sent log ≡ given_text verb password given
    → given ≤ length (due_frames verb password (progress_of verb (bytes_received log)))
    → None ≡ text_at (due_frames verb password (progress_of verb (bytes_received log))) given
    → bytes_sent log ≡ due_text verb password (bytes_received log)
all_sent verb password log given sent_is within none =
    sent_is
    ∙ all_given verb password (progress_of verb (bytes_received log)).accepted (is_served
    (progress_of verb (bytes_received log)).outcome) given within none
    ∙ sym (due_is verb password (bytes_received log))

-- after a read no fewer messages may be sent
still_within : (verb : Verb) (password : List ℕ) (given : ℕ) (old now : Progress)
    → old.outcome ≡ None → (old.accepted ≡ true → now.accepted ≡ true)
    → given ≤ length (due_frames verb password old) → given ≤ length (due_frames verb password now)
still_within verb password given old now unsettled stays within =
    let few : given ≤ length (due_by verb password old.accepted false) = rw unsettled at within in
    omega (arith, due_grows verb password old.accepted now.accepted (is_served now.outcome) stays)

-- ---- a client returns its messages

-- at least `count` messages were returned and written
pub record TalksFrom (count : ℕ) (verb : Verb) (password : List ℕ) (reads : ℕ) (client : Client)
    (now : Option (List Happening)) : Type 0 where
  pub talks : Talks verb password reads client now
  pub some : count ≤ talks.given

pub record KeepsTalking (count : ℕ) (old : Client) (before : Option (List Happening)) (new : Client)
    (after : Option (List Happening)) : Type 0 where
  pub on : (verb : Verb) (password : List ℕ) (reads : ℕ) → Talks verb password reads old before
      → TalksFrom count verb password reads new after
  pub unknown : before ≡ None → after ≡ None

pub keeps_none : (client : Client) (now : Option (List Happening))
    → KeepsTalking 0 client now client now
keeps_none client now = record {
  on = λ verb password reads talks. record
      { talks = talks; some = omega arith };
  unknown = λ is. is;
}

-- an unknown log remains unknown
unknown_written : {X : Type 0} (text : List ℕ) (before after : Option (List Happening))
    (result : Result X StreamFault) → WriteLogs before text result after
    → before ≡ None → after ≡ None
unknown_written text before after result writes is = rw is at writes

unknown_read : (buffer : List ℕ) (before after : Option (List Happening))
    (result : Result ℕ StreamFault) → ReadLogs before result buffer after
    → before ≡ None → after ≡ None
unknown_read buffer before after result reads is = rw is at reads

-- the log after a write
written_log : (log : List Happening) (text : List ℕ) (before after : Option (List Happening))
    → before ≡ Some log
    → WriteLogs {X = Unit {0}} before text (Ok tt) after → after ≡ Some (log ++ sent text ∷ [])
written_log log text before after is writes = rw is at writes

cut_log : (log : List Happening) (text : List ℕ) (before after : Option (List Happening))
    (fault : StreamFault) → before ≡ Some log
    → WriteLogs {X = Unit {0}} before text (Err fault) after → IsCutOff text log after
cut_log log text before after fault is writes = rw is at writes

talks_sent : (verb : Verb) (password text : List ℕ) (reads : ℕ) (old new : Client)
    (before after : Option (List Happening)) → GivesNextMessage old (Some text) new
    → WriteLogs {X = Unit {0}} before text (Ok tt) after
    → (t : Talks verb password reads old before) → TalksFrom
    (suc t.given) verb password reads new after
talks_sent verb password text reads old new before after gives writes t =
    let is = gives.text verb password (bytes_received t.log) t.given false t.stands in
    let same : bytes_received (t.log ++ sent text ∷ []) ≡ bytes_received t.log = heard_sent t.log
    text in
    let now : Stands verb password (bytes_received t.log)
    (suc t.given) false new = gives.stands verb password
    (bytes_received t.log) t.given false t.stands in
    let few : suc t.given ≤ length (due_frames verb password (progress_of verb
    (bytes_received t.log))) =
    given_within verb password text (progress_of verb (bytes_received t.log)).accepted (is_served
    (progress_of verb (bytes_received t.log)).outcome) t.given is in
    record {
      talks = record {
        log = t.log ++ sent text ∷ [];
        log_is = written_log t.log text before after t.log_is writes;
        given = suc t.given;
        stands = subst (λ (fed : List ℕ). Stands verb password fed (suc t.given) false new)
            (sym same) now;
        sent_is =
            sent_more t.log text ∙ ap (λ (s : List ℕ). s ++ text) t.sent_is
            ∙ given_by verb password text (progress_of verb (bytes_received t.log)).accepted
            (is_served
            (progress_of verb (bytes_received t.log)).outcome) t.given is;
        within = subst (λ (fed : List ℕ). suc t.given ≤ length (due_frames verb password
            (progress_of verb fed))) (sym same) few;
        reads_are = reads_sent t.log text ∙ t.reads_are;
        more = λ whole next goes.
            let all = t.more whole (sent text ∷ next)
            (due_in verb password text t.log t.given t.sent_is is, goes) in
            subst (λ (log : List Happening). Permits whole verb password [] log) (sym
            (append_assoc t.log (sent text ∷ []) next)) all;
      };
      some = omega arith;
    }

pub keeps_text : (count : ℕ) (old mid new : Client) (text : List ℕ) (first before after : Option
    (List Happening)) → KeepsTalking count old first mid before
    → GivesNextMessage mid (Some text) new → WriteLogs {X = Unit {0}} before text (Ok tt) after
    → KeepsTalking (count + 1) old first new after
keeps_text count old mid new text first before after keeps gives writes = record {
  on = λ verb password reads talks.
      let here = keeps.on verb password reads talks in
      let next = talks_sent verb password text reads mid new before after gives writes here.talks in
      record { talks = next.talks; some = omega (arith, here.some, next.some) };
  unknown = λ is. unknown_written {X = Unit {0}} text before after (Ok tt) writes
      (keeps.unknown is);
}

-- no message may be sent
talks_quiet : (verb : Verb) (password : List ℕ) (reads : ℕ) (old new : Client) (now : Option
    (List Happening)) → GivesNextMessage old None new
    → Talks verb password reads old now → HasSent verb password reads new now
talks_quiet verb password reads old new now gives t = record {
  talks = record {
    log = t.log;
    log_is = t.log_is;
    given = t.given;
    stands = gives.stands verb password (bytes_received t.log) t.given false t.stands;
    sent_is = t.sent_is;
    within = t.within;
    reads_are = t.reads_are;
    more = t.more;
  };
  all_is = all_sent verb password t.log t.given t.sent_is t.within (gives.text verb password
      (bytes_received t.log) t.given false t.stands);
}

pub sends_none : (count : ℕ) (old mid new : Client) (first before : Option (List Happening))
    → KeepsTalking count old first mid before → GivesNextMessage mid None new
    → Sends old first true new before
sends_none count old mid new first before keeps gives = record {
  on = λ verb password reads talks. talks_quiet verb password reads mid new before gives
      (keeps.on verb password reads talks).talks;
  unknown = keeps.unknown;
}

-- three messages were written
pub sends_three : (count : ℕ) (old new : Client) (first before : Option (List Happening))
    → 3 ≤ count → KeepsTalking count old first new before
    → Sends old first true new before
sends_three count old new first before many keeps = record {
  on = λ verb password reads talks.
      let here = keeps.on verb password reads talks in
      let t = here.talks in
      let three : 3 ≤ t.given = omega (arith, here.some) in
      record {
        talks = t;
        all_is = all_sent verb password t.log t.given t.sent_is t.within
            (three_given verb password (progress_of verb (bytes_received t.log)).accepted (is_served
            (progress_of verb (bytes_received t.log)).outcome) t.given three t.within);
      };
  unknown = keeps.unknown;
}

-- a write fails
talks_cut : (verb : Verb) (password text : List ℕ) (reads : ℕ) (old new : Client)
    (before after : Option (List Happening)) (fault : StreamFault)
    → GivesNextMessage old (Some text) new → WriteLogs {X = Unit {0}} before text (Err fault) after
    → Talks verb password reads old before
    → IsCut verb password new after
talks_cut verb password text reads old new before after fault gives writes t =
    let is = gives.text verb password (bytes_received t.log) t.given false t.stands in
    let cut = cut_log t.log text before after fault t.log_is writes in
    let next : IsDueNext verb password t.log cut.front =
    front_more (due_text verb password (bytes_received t.log))
    (bytes_sent t.log) text cut.front cut.is_front
    (due_in verb password text t.log t.given t.sent_is is) in
    record {
      log = t.log ++ cut_off cut.front ∷ [];
      log_is = cut.new_is;
      given = suc t.given;
      stands = subst (λ (fed : List ℕ). Stands verb password fed (suc t.given) false new) (sym
          (heard_cut t.log cut.front))
          (gives.stands verb password (bytes_received t.log) t.given false t.stands);
      conversation = t.more true (cut_off cut.front ∷ []) (next, refl);
    }

pub sends_cut : (count : ℕ) (old mid new : Client) (text : List ℕ) (first before after : Option
    (List Happening)) (fault : StreamFault)
    → KeepsTalking count old first mid before → GivesNextMessage mid (Some text) new
    → WriteLogs {X = Unit {0}} before text (Err fault) after
    → Sends old first false new after
sends_cut count old mid new text first before after fault keeps gives writes = record {
  on = λ verb password reads talks.
      talks_cut verb password text reads mid new before after fault gives writes
      (keeps.on verb password reads talks).talks;
  unknown = λ is. unknown_written {X = Unit {0}} text before after (Err fault) writes
      (keeps.unknown is);
}

-- ---- a read

-- the outcome of a client whose connection is over
pub gives_at : (verb : Verb) (password fed : List ℕ) (given : ℕ) (client : Client)
    (outcome : Outcome) → GivesUp client outcome
    → Stands verb password fed given false client → outcome ≡ outcome_of verb fed
gives_at verb password fed given client outcome gives stands =
    gives.outcome_is (record { reads = 0; bytes = fed; stop = ended }) verb password (record
    { given = given; stands = stands })

nothing_log : (log : List Happening) (buffer : List ℕ) (before after : Option (List Happening))
    → before ≡ Some log → ReadLogs before (Ok 0) buffer after
    → after ≡ Some (log ++ heard_nothing ∷ [])
nothing_log log buffer before after is reads = rw is at reads

failed_log : (log : List Happening) (buffer : List ℕ) (before after : Option (List Happening))
    (fault : StreamFault) → before ≡ Some log
    → ReadLogs before (Err fault) buffer after → after ≡ Some (log ++ heard_nothing ∷ [])
failed_log log buffer before after fault is reads = rw is at reads

heard_log : (log : List Happening) (buffer : List ℕ) (count : ℕ) (before after : Option
    (List Happening)) → count ≢ 0 → before ≡ Some log
    → ReadLogs before (Ok count) buffer after → after ≡ Some (log ++ heard (take count buffer) ∷ [])
heard_log log buffer zero before after some is reads = absurd (some refl)
heard_log log buffer (suc count) before after some is reads = rw is at reads

-- a read that returned no bytes is the last
over_by : (verb : Verb) (password : List ℕ) (reads : ℕ) (old : Client) (before after : Option
    (List Happening)) (outcome : Outcome) → GivesUp old outcome
    → (w : Waits verb password reads old before) → after ≡ Some
    (w.talks.log ++ heard_nothing ∷ []) → HasConversed verb password (Some outcome) after
over_by verb password reads old before after outcome gives w is = record {
  log = w.talks.log ++ heard_nothing ∷ [];
  log_is = is;
  conversation = w.talks.more true (heard_nothing ∷ []) (w.listens, refl);
  outcome_is =
      gives_at verb password
      (bytes_received w.talks.log) w.talks.given old outcome gives w.talks.stands
      ∙ ap (outcome_of verb) (sym (heard_over w.talks.log));
}

pub turn_over : {E : Type 0} (old new : Client) (buffer : List ℕ) (before after : Option
    (List Happening)) (outcome : Outcome)
    → ReadLogs before (Ok 0) buffer after → GivesUp old outcome
    → TakesTurn {E = E} old before (Ok (Some outcome)) new after
turn_over old new buffer before after outcome log gives = record {
  on = λ verb password reads w. over_by verb password reads old before after outcome gives w
      (nothing_log w.talks.log buffer before after w.talks.log_is log);
  unknown = unknown_read buffer before after (Ok 0) log;
}

pub turn_broken : {E : Type 0} (old new : Client) (buffer : List ℕ) (before after : Option
    (List Happening)) (fault : StreamFault) (outcome : Outcome)
    → ReadLogs before (Err fault) buffer after → GivesUp old outcome
    → TakesTurn {E = E} old before (Ok (Some outcome)) new after
turn_broken old new buffer before after fault outcome log gives = record {
  on = λ verb password reads w.
      over_by verb password reads old before after outcome gives w
      (failed_log w.talks.log buffer before after fault w.talks.log_is log);
  unknown = unknown_read buffer before after (Err fault) log;
}

-- the bytes read could not be processed, out of memory
pub turn_starved : {E : Type 0} (old new : Client) (count : ℕ) (buffer : List ℕ)
    (before after : Option (List Happening)) (result : Result (Option Outcome) E)
    → IsErr result → count ≢ 0 → ReadLogs before (Ok count) buffer after
    → TakesTurn old before result new after
turn_starved old new count buffer before after (Ok outcome) fails some log = absurd cc
turn_starved old new count buffer before after (Err error) fails some log = record {
  on = λ verb password reads w. record {
    log = w.talks.log ++ heard (take count buffer) ∷ [];
    log_is = heard_log w.talks.log buffer count before after some w.talks.log_is log;
    conversation = w.talks.more false (heard (take count buffer) ∷ []) (w.listens, tt);
    outcome_is = tt;
  };
  unknown = unknown_read buffer before after (Ok count) log;
}

-- a client was fed the bytes of one more read
pub record Hears (old : Client) (before : Option (List Happening)) (new : Client) (after : Option
    (List Happening)) : Type 0 where
  pub on : (verb : Verb) (password : List ℕ) (reads : ℕ) → Waits verb password reads old before
      → Talks verb password (suc reads) new after
  pub unknown : before ≡ None → after ≡ None

talks_heard : (verb : Verb) (password bytes : List ℕ) (reads : ℕ) (old new : Client)
    (before after : Option (List Happening))
    → (w : Waits verb password reads old before) → Feeds old bytes new
    → after ≡ Some (w.talks.log ++ heard bytes ∷ [])
    → Talks verb password (suc reads) new after
talks_heard verb password bytes reads old new before after w feeds is =
    let t = w.talks in
    let same : bytes_received (t.log ++ heard bytes ∷ [])
    ≡ bytes_received t.log ++ bytes = heard_more t.log bytes in
    let now : Stands verb password
    (bytes_received t.log ++ bytes) t.given false new = feeds.stands verb password
    (bytes_received t.log) t.given false t.stands in
    let few : t.given ≤ length (due_frames verb password
    (progress_of verb (bytes_received t.log ++ bytes))) =
    still_within verb password t.given (progress_of verb (bytes_received t.log)) (progress_of verb
    (bytes_received t.log ++ bytes)) w.listens.unsettled
    (accepted_stays verb password (bytes_received t.log) bytes t.given false old t.stands) t.within
    in
    record {
      log = t.log ++ heard bytes ∷ [];
      log_is = is;
      given = t.given;
      stands = subst (λ (fed : List ℕ). Stands verb password fed t.given false new) (sym same) now;
      sent_is = sent_heard t.log bytes ∙ t.sent_is;
      within = subst (λ (fed : List ℕ). t.given ≤ length (due_frames verb password
          (progress_of verb fed))) (sym same) few;
      reads_are = reads_heard t.log bytes ∙ ap suc t.reads_are;
      more = λ whole next goes.
          let all = t.more whole (heard bytes ∷ next) (w.listens, goes) in
          subst (λ (log : List Happening). Permits whole verb password [] log) (sym
          (append_assoc t.log (heard bytes ∷ []) next)) all;
    }

pub hears : (old new : Client) (count : ℕ) (bytes buffer : List ℕ) (before after : Option
    (List Happening)) → count ≢ 0 → bytes ≡ take count buffer
    → ReadLogs before (Ok count) buffer after → Feeds old bytes new → Hears old before new after
hears old new count bytes buffer before after some bytes_are log feeds = record {
  on = λ verb password reads w.
      let is = heard_log w.talks.log buffer count before after some w.talks.log_is log in
      talks_heard verb password bytes reads old new before after w feeds
      (is ∙ ap (λ (b : List ℕ). Some (w.talks.log ++ heard b ∷ [])) (sym bytes_are));
  unknown = unknown_read buffer before after (Ok count) log;
}

-- a message could not be written
cut_by : (verb : Verb) (password : List ℕ) (client : Client) (now : Option (List Happening))
    (outcome : Outcome) → GivesUp client outcome
    → IsCut verb password client now → HasConversed verb password (Some outcome) now
cut_by verb password client now outcome gives cut = record {
  log = cut.log;
  log_is = cut.log_is;
  conversation = cut.conversation;
  outcome_is = gives_at verb password (bytes_received cut.log) cut.given client outcome gives
      cut.stands;
}

pub turn_unsent : {E : Type 0} (old mid last new : Client) (before between after : Option
    (List Happening)) (outcome : Outcome) → Hears old before mid between
    → Sends mid between false last after → GivesUp last outcome
    → TakesTurn {E = E} old before (Ok (Some outcome)) new after
turn_unsent old mid last new before between after outcome fed sends gives = record {
  on = λ verb password reads w.
      cut_by verb password last after outcome gives (sends.on verb password (suc reads)
      (fed.on verb password reads w));
  unknown = λ is. sends.unknown (fed.unknown is);
}

-- the outcome is settled, or the next read follows
settled_by : (E : Type 0) (verb : Verb) (password : List ℕ) (reads : ℕ) (client : Client)
    (now : Option (List Happening)) (result : Option Outcome)
    → Tells client result → HasSent verb password reads client now
    → TurnAfter {E = E} (Ok result) verb password reads client now
settled_by E verb password reads client now None tells s = record {
  talks = s.talks;
  listens = record {
    sent_is = s.all_is;
    unsettled = sym (tells.told verb password
        (bytes_received s.talks.log) s.talks.given false s.talks.stands);
  };
}
settled_by E verb password reads client now (Some outcome) tells s =
    let t = s.talks in
    let settled : outcome_after verb (bytes_received t.log) ≡ Some outcome = sym
    (tells.told verb password
    (bytes_received t.log) t.given false t.stands) in
    let some : IsSome (outcome_after verb (bytes_received t.log)) = rw settled refl in
    let all = t.more true [] (s.all_is, inl some) in
    record {
      log = t.log;
      log_is = t.log_is;
      conversation = subst (λ (log : List Happening). Permits true verb password [] log)
          (append-nil t.log) all;
      outcome_is =
          sym (tells.stays verb password (bytes_received t.log) t.given false t.stands outcome
          settled [])
          ∙ ap (outcome_of verb) (append-nil (bytes_received t.log));
    }

pub turn_settled : {E : Type 0} (old mid new : Client) (before between after : Option
    (List Happening)) (result : Option Outcome) → Hears old before mid between
    → Sends mid between true new after → Tells new result
    → TakesTurn {E = E} old before (Ok result) new after
turn_settled {E} old mid new before between after result fed sends tells = record {
  on = λ verb password reads w.
      settled_by E verb password (suc reads) new after result tells (sends.on verb password
      (suc reads) (fed.on verb password reads w));
  unknown = λ is. sends.unknown (fed.unknown is);
}

-- ---- a whole conversation

-- a new client on a new connection
talks_new : (verb : Verb) (password : List ℕ) (client : Client) (now : Option (List Happening))
    → Stands verb password [] 0 false client → now ≡ Some []
    → Talks verb password 0 client now
unfolding bytes_received bytes_sent reads_made
talks_new verb password client now stands is = record {
  log = [];
  log_is = is;
  given = 0;
  stands = stands;
  sent_is = refl;
  within = omega arith;
  reads_are = refl;
  more = λ whole next goes. goes;
}

unsettled_new : (verb : Verb) (log : List Happening) → reads_made log ≡ 0
    → outcome_after verb (bytes_received log) ≡ None
unsettled_new verb log none = ap (outcome_after verb) (heard_none log none)
    ∙ ap (λ (p : Progress). p.outcome) (nothing_said verb)

-- `reads` reads have not settled the outcome
pub record Reaches (old : Client) (begun : Option (List Happening)) (reads : ℕ) (client : Client)
    (now : Option (List Happening)) : Type 0 where
  pub on : (verb : Verb) (password : List ℕ) → Stands verb password [] 0 false old
      → begun ≡ Some [] → Waits verb password reads client now
  pub unknown : begun ≡ None → now ≡ None

pub reaches_first : (old client : Client) (begun now : Option (List Happening))
    → Sends old begun true client now → Reaches old begun 0 client now
reaches_first old client begun now sends = record {
  on = λ verb password stands is.
      let s = sends.on verb password 0 (talks_new verb password old begun stands is) in
      record {
        talks = s.talks;
        listens = record
            { sent_is = s.all_is; unsettled = unsettled_new verb s.talks.log s.talks.reads_are };
      };
  unknown = sends.unknown;
}

pub reaches_next : {E : Type 0} (old mid new : Client) (begun before after : Option
    (List Happening)) (reads : ℕ) → Reaches old begun reads mid before
    → TakesTurn {E = E} mid before (Ok None) new after → Reaches old begun (reads + 1) new after
reaches_next old mid new begun before after reads reaches turn = record {
  on = λ verb password stands is. rw add-one (turn.on verb password reads
      (reaches.on verb password stands is));
  unknown = λ is. turn.unknown (reaches.unknown is);
}

-- no message could be written
pub speaks_unsent : {E : Type 0} (old client : Client) (begun after : Option (List Happening))
    (outcome : Outcome) → Sends old begun false client after
    → GivesUp client outcome → Speaks {E = E} old begun (Ok outcome) after
speaks_unsent old client begun after outcome sends gives = record {
  on = λ verb password stands is.
      cut_by verb password client after outcome gives (sends.on verb password 0
      (talks_new verb password old begun stands is));
  unknown = sends.unknown;
}

pub speaks_turn : {E : Type 0} (old mid new : Client) (begun before after : Option
    (List Happening)) (reads : ℕ) (outcome : Outcome)
    → Reaches old begun reads mid before → TakesTurn {E = E} mid before (Ok
    (Some outcome)) new after → Speaks {E = E} old begun (Ok outcome) after
speaks_turn old mid new begun before after reads outcome reaches turn = record {
  on = λ verb password stands is. turn.on verb password reads (reaches.on verb password stands is);
  unknown = λ is. turn.unknown (reaches.unknown is);
}

pub speaks_starved : {E F : Type 0} (old mid new : Client) (begun before after : Option
    (List Happening)) (reads : ℕ) (error : F) (result : Result Outcome E)
    → IsErr result → Reaches old begun reads mid before
    → TakesTurn mid before (Err error) new after → Speaks old begun result after
speaks_starved old mid new begun before after reads error
    (Ok outcome) fails reaches turn = absurd cc
speaks_starved old mid new begun before after reads error (Err cause) fails reaches turn = record {
  on = λ verb password stands is. turn.on verb password reads (reaches.on verb password stands is);
  unknown = λ is. turn.unknown (reaches.unknown is);
}

-- 65,536 reads have not settled the outcome
pub speaks_last : {E : Type 0} (old client : Client) (begun now : Option (List Happening))
    (reads : ℕ) (outcome : Outcome) → reads ≡ 65536
    → Reaches old begun reads client now → GivesUp client outcome
    → Speaks {E = E} old begun (Ok outcome) now
speaks_last old client begun now reads outcome all reaches gives = record {
  on = λ verb password stands is.
      let w = reaches.on verb password stands is in
      let t = w.talks in
      let whole = t.more true [] (w.listens.sent_is, inr (t.reads_are ∙ all)) in
      record {
        log = t.log;
        log_is = t.log_is;
        conversation = subst (λ (log : List Happening). Permits true verb password [] log)
            (append-nil t.log) whole;
        outcome_is = gives_at verb password (bytes_received t.log) t.given client outcome gives
            t.stands;
      };
  unknown = reaches.unknown;
}
