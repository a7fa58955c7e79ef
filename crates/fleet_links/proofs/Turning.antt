-- Turns, step by step.
use Rattle.std.proofs.Common.{◌≡◌, ◌≢◌, ◌<◌, ◌≤◌, ◌+◌, ℕ, List, [], ◌∷◌, ◌++◌, Option, Some, None, IfSome, Result, Ok, Err, refl, sym, ◌∙◌, ap, subst, arith, length, take, drop, length-append, append_assoc, append-nil}
use Rattle.std.specs.List.{concat}
use Rattle.std.specs.Io.KnownBytes.{Appends}
use Rattle.std.proofs.KnownBytes.{Appends-nil, Appends-trans}
use Rattle.std.proofs.lemmas.List.Folds.{concat-append}
use Rattle.std.proofs.Math.Seq.{take-append_seam}
use Rattle.session_core.specs.declared.end.SessionEnd.{SessionEnd}
use Rattle.embedded_meter.specs.Calls.{NextBy}
use Rattle.embedded_meter.specs.Dialogues.{Dialogue}
use Rattle.embedded_meter.specs.MeterStates.{MeterState, AtSession, dialogue_at}
use Rattle.embedded_meter.specs.Progress.{Advances, GivesNext, IsIdle, IsOver}
use Rattle.embedded_meter.specs.declared.fault.MeterFault.{MeterFault}
use Rattle.embedded_meter.specs.declared.fault.MeterFault.TheVariants.{NoSession, SessionTaken, TooManySamples, Uneven}
use Rattle.embedded_meter.specs.declared.fault.MeterFault.TheVariants as fault
use Rattle.embedded_meter.specs.declared.given.Given.{Given}
use Rattle.embedded_meter.specs.declared.given.Given.TheVariants.{Frame, NoRoom, Wait, End}
use Rattle.fleet_links.specs.Serving.{Serves}
use Rattle.fleet_links.specs.Steps.{WritesBy, QueuesBy, FeedsBy}
use Rattle.fleet_links.specs.Streams.{StreamState}
use Rattle.fleet_links.specs.Turns.{LinkState, Turns, LosesBy, StopsBy, NeedsRoom}
use Rattle.fleet_links.specs.declared.link.LinkEnd.TheVariants.{Closed, Ended, TooLong, Memory}
use Rattle.fleet_links.specs.declared.link.Turn.{Turn}
use Rattle.fleet_links.specs.declared.link.Turn.TheVariants.{Waits, Again, Over}
use Rattle.fleet_links.proofs.Serving.{serves_none, serves_advanced, serves_fed, serves_on}

-- ---- turns

-- no step yet
pub turns_none : (number room : ℕ) (a : LinkState) → dialogue_at a.meter number ≢ None
    → Turns number 0 room a Again a
turns_none number room a is_open = record {
  input = [];
  unfed = [];
  given = [];
  out = [];
  lost = [];
  serves = serves_none number a.meter is_open;
  read = Appends-nil a.stream.arrived;
  wrote = Appends-nil a.stream.written;
  queue = refl;
  loses = (refl, refl);
  stops = (omega arith, refl, refl);
}

-- why a turn stopped, after some steps
stops_on : (number k room n n' : ℕ) (a b c : LinkState) (turn : Turn) → k ≤ n
    → b.stream.blocks ≡ a.stream.blocks → b.stream.ends ≡ a.stream.ends
    → StopsBy number 1 room b n' turn c → StopsBy number (k + 1) room a (n + n') turn c
stops_on number k room n n' a b c Again some blocks ends stops = (
  omega (arith, some, stops.0),
  stops.1 ∙ blocks,
  stops.2 ∙ ends,
)
stops_on number k room n n' a b c Waits some blocks ends stops = (
  λ same. stops.0 (same ∙ sym blocks),
  stops.1,
)
stops_on number k room n n' a b c (Over Closed) some blocks ends stops =
    λ same. stops (same ∙ sym ends)
stops_on number k room n n' a b c (Over (Ended end)) some blocks ends stops = stops
stops_on number k room n n' a b c (Over TooLong) some blocks ends stops = stops
stops_on number k room n n' a b c (Over Memory) some blocks ends stops = tt

-- the bytes of some steps, followed by those of another
queue_on : (a b c given given' out out' lost lost' : List ℕ) → lost ≡ []
    → a ++ given ≡ out ++ (b ++ lost) → b ++ given' ≡ out' ++ (c ++ lost')
    → a ++ (given ++ given') ≡ (out ++ out') ++ (c ++ lost')
queue_on a b c given given' out out' lost lost' none first then_ =
    sym (append_assoc a given given')
    ∙ ap (λ (xs : List ℕ). xs ++ given') (first
    ∙ ap (λ (xs : List ℕ). out ++ (b ++ xs)) none
    ∙ ap (λ (xs : List ℕ). out ++ xs) (append-nil b))
    ∙ append_assoc out b given'
    ∙ ap (λ (xs : List ℕ). out ++ xs) then_
    ∙ sym (append_assoc out out' (c ++ lost'))

-- the bytes that were read in some steps, followed by those of another
read_on : (input unfed input' unfed' : List ℕ) → unfed ≡ []
    → (input ++ unfed) ++ (input' ++ unfed') ≡ (input ++ input') ++ unfed'
read_on input unfed input' unfed' none =
    ap (λ (xs : List ℕ). (input ++ xs) ++ (input' ++ unfed')) none
    ∙ ap (λ (xs : List ℕ). xs ++ (input' ++ unfed')) (append-nil input)
    ∙ sym (append_assoc input input' unfed')

moved_on : (input input' out out' : List ℕ) (given given' : List (List ℕ))
    → (length input + length given + length out)
    + (length input' + length given' + length out')
    ≡ length (input ++ input') + length (given ++ given') + length (out ++ out')
moved_on input input' out out' given given' =
    omega (arith, length-append input input', length-append given given', length-append out out')

-- some steps, followed by another
pub turns_on : (number k room : ℕ) (a b c : LinkState) (turn : Turn)
    → Turns number k room a Again b → Turns number 1 room b turn c
    → Turns number (k + 1) room a turn c
turns_on number k room a b c turn first then_ = record {
  input = first.input ++ then_.input;
  unfed = then_.unfed;
  given = first.given ++ then_.given;
  out = first.out ++ then_.out;
  lost = then_.lost;
  serves = serves_on number a.meter b.meter c.meter first.input then_.input first.given then_.given
      first.serves then_.serves;
  read = subst (λ (xs : List ℕ). Appends a.stream.arrived c.stream.arrived xs)
      (read_on first.input first.unfed then_.input then_.unfed first.loses.0)
      (Appends-trans a.stream.arrived b.stream.arrived c.stream.arrived
      (first.input ++ first.unfed) (then_.input ++ then_.unfed) first.read then_.read);
  wrote = Appends-trans a.stream.written b.stream.written c.stream.written first.out then_.out
      first.wrote then_.wrote;
  queue = ap (λ (xs : List ℕ). a.pending ++ xs) (concat-append first.given then_.given)
      ∙ queue_on a.pending b.pending c.pending (concat first.given) (concat then_.given)
      first.out then_.out first.lost then_.lost first.loses.1 first.queue then_.queue;
  loses = then_.loses;
  stops = subst (λ (n : ℕ). StopsBy number (k + 1) room a n turn c)
      (moved_on first.input then_.input first.out then_.out first.given then_.given)
      (stops_on number k room (length first.input + length first.given + length first.out)
      (length then_.input + length then_.given + length then_.out) a b c turn
      first.stops.0 first.stops.1 first.stops.2 then_.stops);
}

-- the same, for a number and a capacity that were kept
pub turns_more : (number number' k room room' : ℕ) (a b c : LinkState) (turn : Turn)
    → number' ≡ number → room' ≡ room → Turns number k room a Again b
    → Turns number' 1 room' b turn c → Turns number (k + 1) room a turn c
turns_more number number' k room room' a b c turn same same_room first then_ =
    turns_on number k room a b c turn first
    (subst (λ (n : ℕ). Turns n 1 room b turn c) same
    (subst (λ (n : ℕ). Turns number' 1 n b turn c) same_room then_))

-- a turn that stopped after fewer steps
pub stopped_waits : (number k k' room : ℕ) (a b : LinkState) → Turns number k room a Waits b
    → Turns number k' room a Waits b
stopped_waits number k k' room a b turns = record {
  input = turns.input;
  unfed = turns.unfed;
  given = turns.given;
  out = turns.out;
  lost = turns.lost;
  serves = turns.serves;
  read = turns.read;
  wrote = turns.wrote;
  queue = turns.queue;
  loses = turns.loses;
  stops = turns.stops;
}

over_stops : (number k k' room n : ℕ) (a b : LinkState) (end : _)
    → StopsBy number k room a n (Over end) b → StopsBy number k' room a n (Over end) b
over_stops number k k' room n a b Closed stops = stops
over_stops number k k' room n a b (Ended end) stops = stops
over_stops number k k' room n a b TooLong stops = stops
over_stops number k k' room n a b Memory stops = stops

pub stopped_over : (number k k' room : ℕ) (a b : LinkState) (end : _)
    → Turns number k room a (Over end) b → Turns number k' room a (Over end) b
stopped_over number k k' room a b end turns = record {
  input = turns.input;
  unfed = turns.unfed;
  given = turns.given;
  out = turns.out;
  lost = turns.lost;
  serves = turns.serves;
  read = turns.read;
  wrote = turns.wrote;
  queue = turns.queue;
  loses = turns.loses;
  stops = over_stops number k k' room
      (length turns.input + length turns.given + length turns.out) a b end turns.stops;
}

-- ---- steps

not_empty : (p p' : List ℕ) → 0 < length p → p' ≡ p → p' ≢ []
not_empty p p' some same none =
    let e : length p ≡ 0 = ap (λ (xs : List ℕ). length xs) (sym same ∙ none) in
    omega (arith, some, e)

-- pending bytes were written
pub step_wrote : (number room : ℕ) (m : MeterState) (s s' : StreamState) (p p' : List ℕ)
    (turn : Turn) → dialogue_at m number ≢ None → 0 < length p → WritesBy s p turn s' p'
    → Turns number 1 room (record { meter = m; stream = s; pending = p }) turn
    (record { meter = m; stream = s'; pending = p' })
step_wrote number room m s s' p p' Again is_open some w = record {
  input = [];
  unfed = [];
  given = [];
  out = w.out;
  lost = [];
  serves = serves_none number m is_open;
  read = w.moves.read;
  wrote = w.moves.wrote;
  queue = append-nil p ∙ w.split ∙ ap (λ (xs : List ℕ). w.out ++ xs) (sym (append-nil p'));
  loses = (refl, refl);
  stops = (omega (arith, w.some), w.moves.blocks, w.moves.ends);
}
step_wrote number room m s s' p p' Waits is_open some w = record {
  input = [];
  unfed = [];
  given = [];
  out = [];
  lost = [];
  serves = serves_none number m is_open;
  read = w.0.read;
  wrote = w.0.wrote;
  queue = append-nil p ∙ sym w.1 ∙ sym (append-nil p');
  loses = (refl, refl);
  stops = (w.0.blocks, λ none. absurd (not_empty p p' some w.1 none));
}
step_wrote number room m s s' p p' (Over Closed) is_open some w = record {
  input = [];
  unfed = [];
  given = [];
  out = [];
  lost = [];
  serves = serves_none number m is_open;
  read = w.0.read;
  wrote = w.0.wrote;
  queue = append-nil p ∙ sym w.1 ∙ sym (append-nil p');
  loses = (refl, refl);
  stops = w.0.ends;
}
step_wrote number room m s s' p p' (Over (Ended end)) is_open some w = absurd w
step_wrote number room m s s' p p' (Over TooLong) is_open some w = absurd w
step_wrote number room m s s' p p' (Over Memory) is_open some w = absurd w

-- a frame became pending
pub step_queued : (number room : ℕ) (m m' : MeterState) (s s' : StreamState) (p p' frame : List ℕ)
    (turn : Turn) → AtSession m number m'
    (λ (d d' : Dialogue). Advances d m.recorder (frame ∷ []) d' m'.recorder)
    → s' ≡ s → QueuesBy p frame turn p'
    → Turns number 1 room (record { meter = m; stream = s; pending = p }) turn
    (record { meter = m'; stream = s'; pending = p' })
step_queued number room m m' s s' p p' frame Again at same w = record {
  input = [];
  unfed = [];
  given = frame ∷ [];
  out = [];
  lost = [];
  serves = serves_advanced number m m' (frame ∷ []) at;
  read = subst (λ (t : StreamState). Appends s.arrived t.arrived []) (sym same)
      (Appends-nil s.arrived);
  wrote = subst (λ (t : StreamState). Appends s.written t.written []) (sym same)
      (Appends-nil s.written);
  queue = ap (λ (xs : List ℕ). p ++ xs) (append-nil frame) ∙ sym w ∙ sym (append-nil p');
  loses = (refl, refl);
  stops = (
    omega arith,
    ap (λ (t : StreamState). t.blocks) same,
    ap (λ (t : StreamState). t.ends) same,
  );
}
step_queued number room m m' s s' p p' frame (Over Memory) at same w = record {
  input = [];
  unfed = [];
  given = frame ∷ [];
  out = [];
  lost = frame;
  serves = serves_advanced number m m' (frame ∷ []) at;
  read = subst (λ (t : StreamState). Appends s.arrived t.arrived []) (sym same)
      (Appends-nil s.arrived);
  wrote = subst (λ (t : StreamState). Appends s.written t.written []) (sym same)
      (Appends-nil s.written);
  queue = ap (λ (xs : List ℕ). p ++ xs) (append-nil frame)
      ∙ ap (λ (xs : List ℕ). xs ++ frame) (sym w);
  loses = tt;
  stops = tt;
}
step_queued number room m m' s s' p p' frame Waits at same w = absurd w
step_queued number room m m' s s' p p' frame (Over Closed) at same w = absurd w
step_queued number room m m' s s' p p' frame (Over (Ended end)) at same w = absurd w
step_queued number room m m' s s' p p' frame (Over TooLong) at same w = absurd w

-- the session of this number is in a state
at_is : (P : Dialogue → Type 0) (o : Option Dialogue) (d : Dialogue) → o ≡ Some d → P d
    → IfSome o P
at_is P o d e is = subst (λ (x : Option Dialogue). IfSome x P) (sym e) is

-- the session needs more input: bytes were read and fed
pub step_read : (number room : ℕ) (m m' m'' : MeterState) (s s' : StreamState) (p p' : List ℕ)
    (turn : Turn) → AtSession m number m'
    (λ (d d' : Dialogue). Advances d m.recorder [] d' m'.recorder × IsIdle d')
    → p' ≡ p → FeedsBy number m' s turn m'' s'
    → Turns number 1 room (record { meter = m; stream = s; pending = p }) turn
    (record { meter = m''; stream = s'; pending = p' })
step_read number room m m' m'' s s' p p' turn at same w = read_by turn w
  where
    kept : p ++ [] ≡ [] ++ (p' ++ [])
    kept = append-nil p ∙ sym same ∙ sym (append-nil p')

    served : Serves number m [] [] m'
    served = serves_advanced number m m' [] (record {
      before = at.before;
      after = at.after;
      was = at.was;
      is = at.is;
      does = at.does.0;
      stay = at.stay;
    })

    stayed : m'' ≡ m' → Serves number m [] [] m''
    stayed e = subst (λ (q : MeterState). Serves number m [] [] q) (sym e) served

    read_by : (t : Turn) → FeedsBy number m' s t m'' s'
        → Turns number 1 room (record { meter = m; stream = s; pending = p }) t
        (record { meter = m''; stream = s'; pending = p' })
    read_by Again f = record {
      input = f.bytes;
      unfed = [];
      given = [];
      out = [];
      lost = [];
      serves = serves_on number m m' m'' [] f.bytes [] [] served
          (serves_fed number m' m'' f.bytes f.feeds);
      read = subst (λ (xs : List ℕ). Appends s.arrived s'.arrived xs)
          (sym (append-nil f.bytes)) f.moves.read;
      wrote = f.moves.wrote;
      queue = kept;
      loses = (refl, refl);
      stops = (omega (arith, f.some), f.moves.blocks, f.moves.ends);
    }
    read_by Waits f = record {
      input = [];
      unfed = [];
      given = [];
      out = [];
      lost = [];
      serves = stayed f.0;
      read = f.1.read;
      wrote = f.1.wrote;
      queue = kept;
      loses = (refl, refl);
      stops = (
        f.1.blocks,
        λ none. at_is IsIdle (dialogue_at m'' number) at.after
            (ap (λ (q : MeterState). dialogue_at q number) f.0 ∙ at.is) at.does.1,
      );
    }
    read_by (Over Closed) f = record {
      input = [];
      unfed = [];
      given = [];
      out = [];
      lost = [];
      serves = stayed f.0;
      read = f.1.read;
      wrote = f.1.wrote;
      queue = kept;
      loses = (refl, refl);
      stops = f.1.ends;
    }
    read_by (Over Memory) f = record {
      input = [];
      unfed = f.1.bytes;
      given = [];
      out = [];
      lost = [];
      serves = stayed f.0;
      read = f.1.moves.read;
      wrote = f.1.moves.wrote;
      queue = kept;
      loses = tt;
      stops = tt;
    }
    read_by (Over (Ended end)) f = absurd f
    read_by (Over TooLong) f = absurd f

-- a connection that neither reads nor writes
stopped : (number room : ℕ) (m m' : MeterState) (s : StreamState) (p : List ℕ) (turn : Turn)
    → AtSession m number m' (λ (d d' : Dialogue). Advances d m.recorder [] d' m'.recorder)
    → StopsBy number 1 room (record { meter = m; stream = s; pending = p }) 0 turn
    (record { meter = m'; stream = s; pending = p })
    → Turns number 1 room (record { meter = m; stream = s; pending = p }) turn
    (record { meter = m'; stream = s; pending = p })
stopped number room m m' s p turn at stops = record {
  input = [];
  unfed = [];
  given = [];
  out = [];
  lost = [];
  serves = serves_advanced number m m' [] at;
  read = Appends-nil s.arrived;
  wrote = Appends-nil s.written;
  queue = refl;
  loses = none turn;
  stops = stops;
}
  where
    none : (t : Turn) → LosesBy t [] []
    none Waits = (refl, refl)
    none Again = (refl, refl)
    none (Over Closed) = (refl, refl)
    none (Over (Ended end)) = (refl, refl)
    none (Over TooLong) = (refl, refl)
    none (Over Memory) = tt

empty_of : (xs : List ℕ) → length xs ≡ 0 → xs ≡ []
empty_of [] e = refl
empty_of (x ∷ xs) e = absurd (omega (arith, e))

-- the session owed a frame, which became pending
pub step_frame : (number room : ℕ) (m m' : MeterState) (s s' : StreamState)
    (p p' buffer buffer' : List ℕ) (count : ℕ) (given : Given) (turn : Turn) → given ≡ Frame count
    → AtSession m number m'
    (λ (d d' : Dialogue). GivesNext d m.recorder buffer given d' m'.recorder buffer')
    → s' ≡ s → QueuesBy p (take count buffer') turn p'
    → Turns number 1 room (record { meter = m; stream = s; pending = p }) turn
    (record { meter = m'; stream = s'; pending = p' })
step_frame number room m m' s s' p p' buffer buffer' count given turn is at same w =
    let gives = subst (λ (g : Given).
    GivesNext at.before m.recorder buffer g at.after m'.recorder buffer') is at.does in
    let written : take count buffer' ≡ gives.frame =
    ap (λ (xs : List ℕ). take count xs) gives.written
    ∙ ap (λ (n : ℕ). take n (gives.frame ++ drop count buffer)) gives.counted
    ∙ take-append_seam gives.frame (drop count buffer) in
    step_queued number room m m' s s' p p' gives.frame turn
    (record {
      before = at.before;
      after = at.after;
      was = at.was;
      is = at.is;
      does = gives.advances;
      stay = at.stay;
    }) same
    (subst (λ (xs : List ℕ). QueuesBy p xs turn p') written w)

-- the session needs more input
pub step_waiting : (number room : ℕ) (m m' m'' : MeterState) (s s' : StreamState)
    (p p' buffer buffer' : List ℕ) (given : Given) (turn : Turn) → given ≡ Wait
    → AtSession m number m'
    (λ (d d' : Dialogue). GivesNext d m.recorder buffer given d' m'.recorder buffer')
    → p' ≡ p → FeedsBy number m' s turn m'' s'
    → Turns number 1 room (record { meter = m; stream = s; pending = p }) turn
    (record { meter = m''; stream = s'; pending = p' })
step_waiting number room m m' m'' s s' p p' buffer buffer' given turn is at same w =
    let gives = subst (λ (g : Given).
    GivesNext at.before m.recorder buffer g at.after m'.recorder buffer') is at.does in
    step_read number room m m' m'' s s' p p' turn
    (record {
      before = at.before;
      after = at.after;
      was = at.was;
      is = at.is;
      does = (gives.0, gives.1);
      stay = at.stay;
    }) same w

-- a frame is longer than the buffer
pub step_long : (number : ℕ) (m m' : MeterState) (s : StreamState) (p buffer buffer' : List ℕ)
    (count : ℕ) (given : Given) → given ≡ NoRoom count
    → AtSession m number m'
    (λ (d d' : Dialogue). GivesNext d m.recorder buffer given d' m'.recorder buffer')
    → Turns number 1 (length buffer) (record { meter = m; stream = s; pending = p }) (Over TooLong)
    (record { meter = m'; stream = s; pending = p })
step_long number m m' s p buffer buffer' count given is at =
    let gives = subst (λ (g : Given).
    GivesNext at.before m.recorder buffer g at.after m'.recorder buffer') is at.does in
    stopped number (length buffer) m m' s p (Over TooLong)
    (record {
      before = at.before;
      after = at.after;
      was = at.was;
      is = at.is;
      does = gives.0;
      stay = at.stay;
    })
    (at_is (NeedsRoom (length buffer)) (dialogue_at m' number) at.after at.is (record {
      frame = gives.1.frame;
      due = gives.1.due;
      longer = subst (λ (n : ℕ). length buffer < n) gives.1.counted gives.1.longer;
    }))

-- the session is over
pub step_ended : (number room : ℕ) (m m' : MeterState) (s : StreamState) (p buffer buffer' : List ℕ)
    (end : SessionEnd) (given : Given) → length p ≡ 0 → given ≡ End end
    → AtSession m number m'
    (λ (d d' : Dialogue). GivesNext d m.recorder buffer given d' m'.recorder buffer')
    → Turns number 1 room (record { meter = m; stream = s; pending = p }) (Over (Ended end))
    (record { meter = m'; stream = s; pending = p })
step_ended number room m m' s p buffer buffer' end given none is at =
    let gives = subst (λ (g : Given).
    GivesNext at.before m.recorder buffer g at.after m'.recorder buffer') is at.does in
    stopped number room m m' s p (Over (Ended end))
    (record {
      before = at.before;
      after = at.after;
      was = at.was;
      is = at.is;
      does = gives.0;
      stay = at.stay;
    })
    (empty_of p none, at_is (IsOver end) (dialogue_at m' number) at.after at.is gives.1)

-- memory ran out
pub step_failed : (number room : ℕ) (m m' : MeterState) (s : StreamState)
    (p buffer buffer' : List ℕ) (why : MeterFault) → dialogue_at m number ≢ None
    → NextBy m number buffer (Err why) m' buffer'
    → Turns number 1 room (record { meter = m; stream = s; pending = p }) (Over Memory)
    (record { meter = m'; stream = s; pending = p })
step_failed number room m m' s p buffer buffer' NoSession is_open next = absurd (is_open next.0)
step_failed number room m m' s p buffer buffer' fault.Memory is_open next =
    stopped number room m m' s p (Over Memory) next.session tt
step_failed number room m m' s p buffer buffer' SessionTaken is_open next = absurd next
step_failed number room m m' s p buffer buffer' TooManySamples is_open next = absurd next
step_failed number room m m' s p buffer buffer' Uneven is_open next = absurd next
