-- What the calls of a meter do.
--     IsNew, Resumes                  a new meter, and one that continues from a trace
--     OpensBy, ClosesBy               a session is opened, or closed
--     FeedsBy, FinishesBy, NextBy     what a session of the meter does
--     SamplesBy, TakesMoment          samples and moments
use Rattle.std.specs.Prelude.{◌≡◌, ◌≢◌, ◌≤◌, ◌<◌, ℕ, None, List, [], length, Result, Ok, Err, IfSome}
use Rattle.lane_sampler.specs.Samples.{Samples, AreEven, max_values}
use Rattle.trace_player.specs.Resuming.{world_of, ContinuesRun}
use Rattle.relay_events.specs.declared.event.Event.TheVariants as event
use Rattle.relay_events.specs.declared.reply.Reply.{Reply}
use Rattle.relay_events.specs.declared.reply.Reply.TheVariants.{Sampled, SampledBoth, Ran, Stale}
use Rattle.relay_core.specs.Stands.{StandsFor}
use Rattle.relay_core.specs.World.{new_world}
use Rattle.relay_recorder.specs.Histories.{StandsForHistory}
use Rattle.relay_recorder.specs.declared.trace.Trace.{Trace}
use Rattle.embedded_meter.specs.Dialogues.{Dialogue}
use Rattle.embedded_meter.specs.MeterStates.{MeterState, OthersStay, AtSession, Takes, dialogue_at, max_sessions}
use Rattle.embedded_meter.specs.Progress.{Owes, Feeds, Finishes, GivesNext, Advances}
use Rattle.embedded_meter.specs.declared.fault.MeterFault.{MeterFault}
use Rattle.embedded_meter.specs.declared.fault.MeterFault.TheVariants.{NoSession, SessionTaken, TooManySamples, Uneven, Memory}
use Rattle.embedded_meter.specs.declared.given.Fired.{Fired}
use Rattle.embedded_meter.specs.declared.given.Given.{Given}
use Rattle.embedded_meter.specs.declared.given.Tick.{Tick}
use Rattle.embedded_meter.specs.declared.given.Tick.TheVariants as tick
use Rattle.trace_player.specs.Traces.{trace_of}

-- whether a meter is new and has this name and password; it keeps at most `kept` events, and no
-- session is open
pub record IsNew (device password : List ℕ) (kept : ℕ) (m : MeterState) : Type 0 where
  pub stands : StandsForHistory m.recorder [] (new_world device)
  pub capacity : m.recorder.capacity ≡ kept
  pub guarded : m.password ≡ password
  pub sessions : (number : ℕ) → dialogue_at m number ≡ None

-- Whether a meter continues from the trace of this text. It has this password, keeps at most `kept`
-- events and has none yet, and no session is open.
pub record Resumes (text password : List ℕ) (kept : ℕ) (m : MeterState) : Type 0 where
  pub trace : Trace
  pub told : trace_of text ≡ Ok trace
  pub stands : StandsFor m.recorder.core (world_of trace)
  pub goes_on : ContinuesRun trace (world_of trace)
  pub empty : m.recorder.events ≡ []
  pub capacity : m.recorder.capacity ≡ kept
  pub guarded : m.password ≡ password
  pub sessions : (number : ℕ) → dialogue_at m number ≡ None

-- ---- sessions

-- whether a session was opened in a free place: it will do what a session with the meter's password
-- does, whatever its input, and nothing else has changed
pub record Opens (old : MeterState) (number : ℕ) (new : MeterState) : Type 0 where
  pub within : number < max_sessions
  pub free : dialogue_at old number ≡ None
  pub opened : IfSome (dialogue_at new number) (Owes old.password)
  pub is_open : dialogue_at new number ≢ None
  pub stay : OthersStay old number new
  pub recorder : new.recorder ≡ old.recorder

-- whether a call opened the session with this number, or had this fault and left the meter
-- unchanged
abbrev pub OpensBy : MeterState → ℕ → Result Unit MeterFault → MeterState → Type 0
OpensBy old number (Ok done) new = Opens old number new
OpensBy old number (Err NoSession) new = (max_sessions ≤ number) × (new ≡ old)
OpensBy old number (Err SessionTaken) new = (dialogue_at old number ≢ None) × (new ≡ old)
OpensBy old number (Err Memory) new = (number < max_sessions) × (dialogue_at old number ≡ None)
    × (new ≡ old)
OpensBy old number (Err TooManySamples) new = ⊥
OpensBy old number (Err Uneven) new = ⊥

-- whether a call had this fault and left the meter unchanged: no such session is open, or out of
-- memory
abbrev pub RefusedBy : MeterState → ℕ → MeterFault → MeterState → Type 0
RefusedBy old number NoSession new = (dialogue_at old number ≡ None) × (new ≡ old)
RefusedBy old number Memory new = (dialogue_at old number ≢ None) × (new ≡ old)
RefusedBy old number SessionTaken new = ⊥
RefusedBy old number TooManySamples new = ⊥
RefusedBy old number Uneven new = ⊥

-- whether an open session received bytes, and nothing else has changed
pub record FeedsAt (old : MeterState) (number : ℕ) (bytes : List ℕ) (new : MeterState) : Type 0
  where
    pub session : AtSession old number new (λ (d d' : Dialogue). Feeds d bytes d')
    pub recorder : new.recorder ≡ old.recorder

-- whether a call fed these bytes to the session with this number, or was refused with this fault
abbrev pub FeedsBy : MeterState → ℕ → List ℕ → Result Unit MeterFault → MeterState → Type 0
FeedsBy old number bytes (Ok done) new = FeedsAt old number bytes new
FeedsBy old number bytes (Err fault) new = RefusedBy old number fault new

-- whether the input of an open session ended, and nothing else has changed
pub record FinishesAt (old : MeterState) (number : ℕ) (new : MeterState) : Type 0 where
  pub session : AtSession old number new Finishes
  pub recorder : new.recorder ≡ old.recorder

-- whether a call ended the input of the session with this number, or found no such session
abbrev pub FinishesBy : MeterState → ℕ → Result Unit MeterFault → MeterState → Type 0
FinishesBy old number (Ok done) new = FinishesAt old number new
FinishesBy old number (Err fault) new = (fault ≡ NoSession) × (dialogue_at old number ≡ None)
    × (new ≡ old)

-- whether the session with this number gave a frame, or what it waits for
abbrev pub GivesAt : MeterState → ℕ → List ℕ → Given → MeterState → List ℕ → Type 0
GivesAt old number buffer given new buffer' =
    AtSession old number new
    (λ (d d' : Dialogue). GivesNext d old.recorder buffer given d' new.recorder buffer')

-- whether a call of `next` that ran out of memory returned no frame: whatever was done stays done,
-- and the buffer is unchanged
pub record StopsAt (old : MeterState) (number : ℕ) (buffer : List ℕ) (new : MeterState)
    (buffer' : List ℕ) : Type 0 where
  pub session : AtSession old number new
      (λ (d d' : Dialogue). Advances d old.recorder [] d' new.recorder)
  pub unwritten : buffer' ≡ buffer

-- whether a call of `next` had this result: a frame or what the session waits for, no such session,
-- or out of memory
abbrev pub NextBy : MeterState → ℕ → List ℕ → Result Given MeterFault → MeterState → List ℕ → Type 0
NextBy old number buffer (Ok given) new buffer' = GivesAt old number buffer given new buffer'
NextBy old number buffer (Err NoSession) new buffer' = (dialogue_at old number ≡ None) × (new ≡ old)
    × (buffer' ≡ buffer)
NextBy old number buffer (Err Memory) new buffer' = StopsAt old number buffer new buffer'
NextBy old number buffer (Err SessionTaken) new buffer' = ⊥
NextBy old number buffer (Err TooManySamples) new buffer' = ⊥
NextBy old number buffer (Err Uneven) new buffer' = ⊥

-- whether an open session was closed, and nothing else has changed
pub record Closes (old : MeterState) (number : ℕ) (new : MeterState) : Type 0 where
  pub was_open : dialogue_at old number ≢ None
  pub free : dialogue_at new number ≡ None
  pub stay : OthersStay old number new
  pub recorder : new.recorder ≡ old.recorder

-- whether a call closed the session with this number, or found no such session
abbrev pub ClosesBy : MeterState → ℕ → Result Unit MeterFault → MeterState → Type 0
ClosesBy old number (Ok done) new = Closes old number new
ClosesBy old number (Err fault) new = (fault ≡ NoSession) × (dialogue_at old number ≡ None)
    × (new ≡ old)

-- ---- events of the meter's own

-- whether a reply is that to a block of samples with these firings
abbrev pub IsFired : Reply → Fired → Type 0
IsFired (Sampled over under) fired =
    fired ≡ record { over = over; under = under; export_over = 0; export_under = 0 }
IsFired (SampledBoth over under export_over export_under) fired =
    fired ≡ record {
      over = over;
      under = under;
      export_over = export_over;
      export_under = export_under;
    }
IsFired _ fired = ⊥

-- whether a block of samples within the limit was applied, with these firings
pub record TakesSamples (old : MeterState) (samples : Samples) (fired : Fired) (new : MeterState)
    : Type 0 where
  pub reply : Reply
  pub takes : Takes old (event.Samples samples) reply new
  pub tells : IsFired reply fired
  pub few : length samples.import ≤ max_values

-- whether a block of samples was applied with these firings, or had this fault and left the meter
-- unchanged
abbrev pub SamplesBy : MeterState → Samples → Result Fired MeterFault → MeterState → Type 0
SamplesBy old samples (Ok fired) new = TakesSamples old samples fired new
SamplesBy old samples (Err TooManySamples) new = AreEven samples
    × (max_values < length samples.import) × (new ≡ old)
SamplesBy old samples (Err Uneven) new = (¬ (AreEven samples)) × (new ≡ old)
SamplesBy old samples (Err Memory) new = AreEven samples × (length samples.import ≤ max_values)
    × (new ≡ old)
SamplesBy old samples (Err NoSession) new = ⊥
SamplesBy old samples (Err SessionTaken) new = ⊥

-- whether a reply is that to a moment with this result
abbrev pub IsTick : Reply → Tick → Type 0
IsTick (Ran count) t = t ≡ tick.Ran count
IsTick (Stale last) t = t ≡ tick.Stale last
IsTick _ t = ⊥

-- whether a moment was applied, with this result
pub record TakesMoment (old : MeterState) (moment : ℕ) (t : Tick) (new : MeterState) : Type 0 where
  pub reply : Reply
  pub takes : Takes old (event.Moment moment) reply new
  pub tells : IsTick reply t
