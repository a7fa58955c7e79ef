-- A session from its first read to its last.
use Rattle.std.proofs.Common.{◌≡◌, ◌≤◌, ◌<◌, ◌+◌, ◌*◌, ℕ, Option, Some, None, List, [], ◌++◌, length, Result, Ok, Err, IfOk, IfErr, OnOk, IsErrAnd, refl, sym, ap, ◌∙◌, subst, inl, append-nil, arith, false, take}
use Rattle.std.proofs.lemmas.List.{length-append, length-take-le}
use Rattle.std.specs.Io.KnownBytes.{Consumes, IsAtEnd}
use Rattle.std.proofs.KnownBytes.{Appends-nil, Consumes-nil, Consumes-trans}
use Rattle.session_io.proofs.Reaching.{reached_new, reached_none, reached_on, does_all, does_all_on, stops_on}
use Rattle.session_io.specs.Serving.{Plan, DoesAll, Stops, EndsBefore, ReadsNoMore, StopsAtHeader, Pieces, HasEffect, ServesSession, as_bytes, max_reads, longest_piece, plan_of, remaining_plan, work_for}
use Rattle.session_io.specs.Sides.{Input, Outlets, Sides, input_of, outlets_of}
use Rattle.session_io.specs.Settling.{IsSettled, IsWrongHeader, MayContinue, HasDone, Settles, IsCaughtUp}
use Rattle.session_io.specs.declared.fault.ServeFault.{ServeFault}
use Rattle.session_io.specs.declared.fault.ServeFault.TheVariants as fault
use Rattle.relay_events.specs.declared.event.Event.{Event}
use Rattle.relay_events.specs.declared.reply.Reply.{Reply}
use Rattle.session_core.specs.Backwards.{Asks, Answers, end_of}
use Rattle.session_core.specs.Ends.{EndsWithInput}
use Rattle.session_core.specs.Progress.{Owes}
use Rattle.session_core.specs.Remaining.{still_ends, is_asking}
use Rattle.session_core.specs.declared.end.SessionEnd.{SessionEnd}
use Rattle.session_core.specs.declared.end.SessionEnd.TheVariants as ending
use Rattle.session_core.specs.declared.session.Session.{Session}
use Rattle.turn_lock.specs.declared.call_fault.CallFault.{CallFault}
use Rattle.wrapper_frame.specs.Messages.{frames_of, rest_of, cut_in}
use Rattle.wrapper_frame.specs.Header.{head_of}

-- at the end of the input, a session may end in any way
ends_before : (end : SessionEnd) (left : Option (List ℕ)) → IsAtEnd left → EndsBefore end left
ends_before ending.Closed left at_end = at_end
ends_before ending.Cut left at_end = at_end
ends_before ending.BadVersion left at_end = tt
ends_before ending.TooLong left at_end = tt

-- a session may end at an invalid header, whatever bytes are left
pub wrong_ends : (end : SessionEnd) (left : Option (List ℕ)) → IsWrongHeader end
    → EndsBefore end left
wrong_ends ending.Closed left wrong = absurd wrong
wrong_ends ending.Cut left wrong = absurd wrong
wrong_ends ending.BadVersion left wrong = tt
wrong_ends ending.TooLong left wrong = tt

no_asks : (password : List ℕ) → Asks password [] ≡ []
unfolding Asks frames_of cut_in
no_asks password = refl

no_answers : (password : List ℕ) (replies : List Reply) → Answers password [] replies ≡ []
unfolding Answers frames_of cut_in
no_answers password replies = refl

-- a new session has nothing to do
pub settled_new : (password : List ℕ) (s : Session) → Owes password s → IsSettled s
settled_new password s owes = record {
  asks = owes.asks [] ∙ no_asks password;
  sends = λ replies. owes.sends [] replies ∙ no_answers password replies;
}

-- an empty input has no invalid header
nothing_ends : EndsWithInput (end_of [])
unfolding end_of rest_of cut_in head_of
nothing_ends = tt

-- a new session has no invalid header
pub ends_new : (password : List ℕ) (s : Session) → Owes password s → EndsWithInput (still_ends s [])
ends_new password s owes = subst EndsWithInput (sym (owes.ends [])) nothing_ends

-- ---- the reads

stops_after : (seen bytes : List ℕ) → length bytes ≤ longest_piece → EndsWithInput (end_of seen)
    → StopsAtHeader (seen ++ bytes)
stops_after seen bytes short ends = record {
  earlier = seen;
  last = bytes;
  all = refl;
  short = short;
  ends = ends;
}

more_is_short : (seen bytes : List ℕ) (count : ℕ) → length seen ≤ count * longest_piece
    → length bytes ≤ longest_piece → length (seen ++ bytes) ≤ (count + 1) * longest_piece
more_is_short seen bytes count short piece =
    let same = length-append seen bytes in omega (arith, short, piece, same)

pieces_more : (seen bytes : List ℕ) (count : ℕ) (before after : Input)
    → length seen ≤ count * longest_piece → length bytes ≤ longest_piece → count < max_reads
    → after.reads ≡ before.reads + (count + 1) → Pieces (seen ++ bytes) before after
pieces_more seen bytes count before after short piece few counted = record {
  count = count + 1;
  most = omega (arith, few);
  short = more_is_short seen bytes count short piece;
  counted = counted;
}

pieces_so_far : (seen : List ℕ) (count : ℕ) (before after : Input)
    → length seen ≤ count * longest_piece → count ≤ max_reads
    → after.reads ≡ before.reads + count → Pieces (seen ++ []) before after
pieces_so_far seen count before after short most counted = record {
  count = count;
  most = most;
  short = subst (λ (all : List ℕ). length all ≤ count * longest_piece) (sym (append-nil seen))
      short;
  counted = counted;
}

module _ {M : Type 0} (steps : M → Event → Result Reply CallFault → M → Type 0) (written_as : List ℕ
    → List ℕ) where
  -- the effect of a session, stated for its password
  owed : (password seen : List ℕ) (old s : Session) (before after : Outlets M) → Owes password old
      → HasDone steps written_as (remaining_plan old) before seen s after
      → HasDone steps written_as (plan_of password) before seen s after
  owed password seen old s before after owes r =
      reached_on [] seen old s before after (reached_new password old before owes) r

  pub stands_new : (s : Session) (before : Sides M) → IsSettled s
      → EndsWithInput (still_ends s []) → is_asking s ≡ false
      → IsCaughtUp steps written_as s before 0 s before
  stands_new s before settled ends silent = record {
    seen = [];
    read = Consumes-nil before.input.left;
    short = omega arith;
    reached = reached_none s before.outlets;
    settled = settled;
    ends = ends;
    silent = silent;
  }

  -- how the bytes read so far would end a session
  ends_so_far : (password : List ℕ) (old s : Session) (before now : Sides M) (count : ℕ)
      → Owes password old → (st : IsCaughtUp steps written_as old before count s now)
      → EndsWithInput (end_of st.seen)
  ends_so_far password old s before now count owes st =
      let e : end_of st.seen ≡ still_ends s [] =
      ap end_of (sym (append-nil st.seen)) ∙ sym (owes.ends (st.seen ++ []))
      ∙ st.reached.ends_rest [] in
      subst EndsWithInput (sym e) st.ends

  -- one more read
  stands_on : (old s new : Session) (before now after : Sides M)
      (count : ℕ) (bytes : List ℕ) (end : Option SessionEnd)
      → IsCaughtUp steps written_as old before count s now
      → Consumes now.input.left after.input.left bytes → length bytes ≤ longest_piece
      → Settles steps written_as s now.outlets bytes end new after.outlets
      → EndsWithInput (still_ends new [])
      → IsCaughtUp steps written_as old before (count + 1) new after
  stands_on old s new before now after count bytes end st consumed piece settled ends = record {
    seen = st.seen ++ bytes;
    read = Consumes-trans before.input.left now.input.left after.input.left st.seen bytes st.read
        consumed;
    short = more_is_short st.seen bytes count st.short piece;
    reached = reached_on st.seen bytes s new now.outlets after.outlets st.reached settled.reached;
    settled = settled.settled;
    ends = ends;
    silent = settled.silent;
  }

  -- one more read, unless an invalid header ended the session
  pub stands_next : (old s new : Session) (before now after : Sides M)
      (count : ℕ) (bytes : List ℕ) (end : Option SessionEnd)
      → IsCaughtUp steps written_as old before count s now
      → Consumes now.input.left after.input.left bytes → length bytes ≤ longest_piece
      → Settles steps written_as s now.outlets bytes end new after.outlets → MayContinue end
      → IsCaughtUp steps written_as old before (count + 1) new after
  stands_next old s new before now after count bytes None st consumed piece settled continues =
      stands_on old s new before now after count bytes None st consumed piece settled
      settled.done.1
  stands_next old s new before now after count bytes (Some end) st consumed piece settled continues
      =
      stands_on old s new before now after count bytes (Some end) st consumed piece settled
      (subst EndsWithInput (sym (settled.done.ends [])) continues)

-- a reader, a writer and a meter, by the ghost members of their types
abbrev pub sides : {R W M : Type 0} → (R → Option (List ℕ)) → (R → ℕ) → (R → ℕ)
    → (W → Option (List ℕ)) → (W → ℕ) → R → W → M → Sides M
sides remaining reads read_failures contents write_failures reader writer meter =
    record {
      input = input_of remaining reads read_failures reader;
      outlets = outlets_of contents write_failures writer meter;
    }

-- a read into a buffer of 1,024 bytes returns at most 1,024
pub piece_of : (buffer : List ℕ) (count : ℕ) → count ≤ length buffer → length buffer ≡ longest_piece
    → length (take count buffer) ≤ longest_piece
piece_of buffer count bound room = let e = length-take-le count buffer bound in omega
    (arith, e, bound, room)

module _ {M : Type 0} (steps : M → Event → Result Reply CallFault → M → Type 0) where
  did_stop : (plan : Plan) (seen : List ℕ) (before after : Sides M) (f : ServeFault)
      → Stops steps as_bytes (work_for plan seen) before.outlets f after.outlets
      → HasEffect steps plan seen before (Err f) after
  did_stop plan seen before after fault.Read stop = absurd stop
  did_stop plan seen before after fault.Write stop = stop
  did_stop plan seen before after fault.Memory stop = stop
  did_stop plan seen before after fault.Exhausted stop = stop
  did_stop plan seen before after fault.Listen stop = absurd stop
  did_stop plan seen before after fault.Journal stop = stop

  -- out of memory before there was a session
  pub served_none : (password : List ℕ) (before : Sides M) (result : Result SessionEnd ServeFault)
      → IsErrAnd result (λ f. f ≡ fault.Memory)
      → ServesSession steps password before result before
  served_none password before (Ok end) is = absurd is
  served_none password before (Err f) is = record {
    seen = [];
    read = Consumes-nil before.input.left;
    stops = record {
      earlier = [];
      last = [];
      all = refl;
      short = omega arith;
      ends = nothing_ends;
    };
    pieces = record { count = 0; most = omega arith; short = omega arith; counted = omega arith };
    effect = did_stop (plan_of password) [] before before f
        (subst
        (λ (g : ServeFault). Stops steps as_bytes (work_for (plan_of password) []) before.outlets g
        before.outlets)
        (sym is)
        (record {
          asked = [];
          later = Asks password [];
          all_asked = refl;
          replies = [];
          replied = inl refl;
          sent = [];
          unsent = Answers password [] [];
          all_sent = refl;
          wrote = Appends-nil before.outlets.output.written;
        }));
  }

  -- an error after these bytes
  pub served_stop : (password bytes : List ℕ) (count : ℕ) (old s : Session)
      (before now after : Sides M) (f : ServeFault)
      → Owes password old → IsCaughtUp steps as_bytes old before count s now
      → Consumes now.input.left after.input.left bytes
      → length bytes ≤ longest_piece → count < max_reads
      → after.input.reads ≡ before.input.reads + (count + 1)
      → now.outlets.output.failures ≡ before.outlets.output.failures
      → Stops steps as_bytes (work_for (remaining_plan s) bytes) now.outlets f after.outlets
      → ServesSession steps password before (Err f) after
  served_stop password bytes count old s before now after f owes st consumed piece few counted even
      stop = record {
        seen = st.seen ++ bytes;
        read = Consumes-trans before.input.left now.input.left after.input.left st.seen bytes
            st.read consumed;
        effect = did_stop (plan_of password) (st.seen ++ bytes) before after f
            (stops_on st.seen bytes s now.outlets after.outlets f
            (owed steps as_bytes password st.seen old s before.outlets now.outlets owes st.reached)
            even stop);
        stops = stops_after st.seen bytes piece
            (ends_so_far steps as_bytes password old s before now count owes st);
        pieces = pieces_more st.seen bytes count before.input after.input st.short piece few
            counted;
      }

  -- an error after these bytes, for a fault that a call's error was converted to
  pub served_stop_by : (password bytes : List ℕ) (count : ℕ) (old s : Session)
      (before now after : Sides M) (f : ServeFault) (result : Result SessionEnd ServeFault)
      → Owes password old → IsCaughtUp steps as_bytes old before count s now
      → Consumes now.input.left after.input.left bytes
      → length bytes ≤ longest_piece → count < max_reads
      → after.input.reads ≡ before.input.reads + (count + 1)
      → now.outlets.output.failures ≡ before.outlets.output.failures
      → Stops steps as_bytes (work_for (remaining_plan s) bytes) now.outlets f after.outlets
      → IsErrAnd result (λ g. g ≡ f)
      → ServesSession steps password before result after
  served_stop_by password bytes count old s before now after f (Ok end) owes st consumed piece few
      counted even stop is = absurd is
  served_stop_by password bytes count old s before now after f (Err g) owes st consumed piece few
      counted even stop is =
      subst (λ (given : ServeFault). ServesSession steps password before (Err given) after) (sym is)
      (served_stop password bytes count old s before now after f owes st consumed piece few counted
      even stop)

  -- the input ended
  pub served_end : (password : List ℕ) (count : ℕ) (old s : Session) (before now after : Sides M)
      (result : Result SessionEnd ServeFault)
      → Owes password old → IsCaughtUp steps as_bytes old before count s now
      → Consumes now.input.left after.input.left [] → IsAtEnd after.input.left
      → count < max_reads → after.input.reads ≡ before.input.reads + (count + 1)
      → now.outlets.output.failures ≡ before.outlets.output.failures
      → OnOk result (DoesAll steps as_bytes (work_for (remaining_plan s) []) now.outlets
      after.outlets)
      → IfOk result (λ end. end ≡ still_ends s [])
      → IfErr result
      (λ f. Stops steps as_bytes (work_for (remaining_plan s) []) now.outlets f after.outlets)
      → ServesSession steps password before result after
  served_end password count old s before now after (Ok end) owes st consumed at_end few counted even
      all so stop =
      let far = owed steps as_bytes password st.seen old s before.outlets now.outlets owes
      st.reached in
      record {
        seen = st.seen ++ [];
        read = Consumes-trans before.input.left now.input.left after.input.left st.seen [] st.read
            consumed;
        effect = (
          does_all_on st.seen [] s now.outlets after.outlets far all,
          so ∙ sym (far.ends_rest []),
          ends_before end after.input.left at_end,
        );
        stops = stops_after st.seen [] (omega arith)
            (ends_so_far steps as_bytes password old s before now count owes st);
        pieces = pieces_more st.seen [] count before.input after.input st.short (omega arith) few
            counted;
      }
  served_end password count old s before now after (Err f) owes st consumed at_end few counted even
      all so stop =
      served_stop password [] count old s before now after f owes st consumed (omega arith) few
      counted even stop

  -- an invalid header arrived
  pub served_over : (password bytes : List ℕ) (count : ℕ) (old s new : Session)
      (before now after : Sides M) (end : SessionEnd)
      → Owes password old → IsCaughtUp steps as_bytes old before count s now
      → Consumes now.input.left after.input.left bytes
      → length bytes ≤ longest_piece → count < max_reads
      → after.input.reads ≡ before.input.reads + (count + 1)
      → Settles steps as_bytes s now.outlets bytes (Some end) new after.outlets
      → EndsBefore end after.input.left
      → ServesSession steps password before (Ok end) after
  served_over password bytes count old s new before now after end owes st consumed piece few counted
      settled early =
      let far = owed steps as_bytes password (st.seen ++ bytes) old new before.outlets after.outlets
      owes
      (reached_on st.seen bytes s new now.outlets after.outlets st.reached settled.reached) in
      record {
        seen = (st.seen ++ bytes) ++ [];
        read = subst (Consumes before.input.left after.input.left)
            (sym (append-nil (st.seen ++ bytes)))
            (Consumes-trans before.input.left now.input.left after.input.left st.seen bytes st.read
            consumed);
        effect = (
          does_all (st.seen ++ bytes) [] new after.outlets far settled.settled.asks
              settled.settled.sends,
          sym (far.ends_rest [] ∙ settled.done.ends []),
          early,
        );
        stops = subst StopsAtHeader (sym (append-nil (st.seen ++ bytes)))
            (stops_after st.seen bytes piece
            (ends_so_far steps as_bytes password old s before now count owes st));
        pieces = subst (λ (all : List ℕ). Pieces all before.input after.input)
            (sym (append-nil (st.seen ++ bytes)))
            (pieces_more st.seen bytes count before.input after.input st.short piece few counted);
      }

  -- a read failed, or it was the last one allowed
  pub served_unread : (password : List ℕ) (count : ℕ) (old s : Session) (before now : Sides M)
      (input : Input)
      → Owes password old → IsCaughtUp steps as_bytes old before count s now
      → Consumes now.input.left input.left [] → count ≤ max_reads
      → input.reads ≡ before.input.reads + count
      → ReadsNoMore before.input input
      → ServesSession steps password before (Err fault.Read)
      (record { input = input; outlets = now.outlets })
  served_unread password count old s before now input owes st consumed most counted cause =
      let far = owed steps as_bytes password st.seen old s before.outlets now.outlets owes
      st.reached in
      record {
        seen = st.seen ++ [];
        read = Consumes-trans before.input.left now.input.left input.left st.seen [] st.read
            consumed;
        effect = (
          does_all st.seen [] s now.outlets far st.settled.asks st.settled.sends,
          cause,
        );
        stops = stops_after st.seen [] (omega arith)
            (ends_so_far steps as_bytes password old s before now count owes st);
        pieces = pieces_so_far st.seen count before.input input st.short most counted;
      }
