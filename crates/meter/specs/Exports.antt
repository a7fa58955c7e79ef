-- What the exported functions do to the meter of a handle, and what they return.
--     OnOpen                                     a call on an open meter, or the result `NotOpen`
--     MeterOpen, MeterResume                     a meter is opened, new or from a trace
--     MeterOpenSession .. MeterCloseSession      the calls on a session
--     MeterPress .. MeterMoment                  the meter's own events
--     MeterControlState .. MeterLastMoment       reads of the meter's state
--     MeterExport                                the trace is written
use Rattle.std.specs.Prelude.{◌≡◌, ◌⊎◌, ◌≤◌, ◌<◌, ◌++◌, ℕ, Bool, Option, Some, None, List, [], ◌∷◌, length, drop, Result, Ok, Err}
use Rattle.cosem_names.specs.ResultCode as result_code
use Rattle.cosem_names.specs.declared.result_code.ResultCode.{ResultCode}
use Rattle.disconnect_control.specs.declared.state.ControlState.TheVariants.{Connected}
use Rattle.disconnect_control.specs.Transitions.{is_state, state_number, mode_number}
use Rattle.lane_sampler.specs.Samples.{Samples}
use Rattle.meter.specs.Outcomes.{code_of, of_fault, outcome_of_call, outcome_of_session, length_of, of_tick, run_count_of}
use Rattle.meter.specs.declared.events.Firings.{Firings}
use Rattle.meter.specs.declared.outcome.CallResult.{CallResult}
use Rattle.meter.specs.declared.outcome.CallResult.TheVariants as outcome
use Rattle.trace_player.specs.RunTraces.{TellsRun}
use Rattle.relay_events.specs.declared.event.Event.TheVariants.{Button}
use Rattle.relay_events.specs.declared.reply.Reply.TheVariants.{Code}
use Rattle.relay_core.specs.Stands.{StandsFor}
use Rattle.relay_core.specs.World.{World}
use Rattle.embedded_meter.specs.Calls.{IsNew, Resumes, OpensBy, FeedsBy, FinishesBy, NextBy, ClosesBy, SamplesBy, TakesMoment}
use Rattle.relay_recorder.specs.Recording.{IsCapacity, Recording}
use Rattle.embedded_meter.specs.MeterStates.{MeterState, Takes}
use Rattle.embedded_meter.specs.declared.fault.MeterFault.{MeterFault}
use Rattle.embedded_meter.specs.declared.given.Fired.{Fired}
use Rattle.embedded_meter.specs.declared.given.Given.{Given}
use Rattle.embedded_meter.specs.declared.given.Tick.{Tick}
use Rattle.trace_words.specs.declared.fault.TraceFault.{TraceFault}
use Rattle.trace_player.specs.Traces.{trace_of}

-- Whether a call on a handle returned this code and left this meter. On an open meter the call does
-- `does`. On a handle that is not open the code is that of `NotOpen`, the handle stays closed, and
-- `shut` holds of the output arguments.
abbrev pub OnOpen : (shut : Type 0) (does : MeterState → ℕ → MeterState → Type 0)
    → Option MeterState → ℕ
    → Option MeterState → Type 0
OnOpen shut does None code new = (code ≡ code_of outcome.NotOpen) × (new ≡ None) × shut
OnOpen shut does (Some m) code None = ⊥
OnOpen shut does (Some m) code (Some m') = does m code m'

-- ---- opening

-- whether the arguments that each opening has are in their ranges: a password of 1 to 32 bytes, and
-- 1 to 1,024 kept events
pub record AreKept (password : List ℕ) (kept : ℕ) : Type 0 where
  pub password_some : 1 ≤ length password
  pub password_few : length password ≤ 32
  pub keeps : IsCapacity kept

-- whether the arguments of opening a new meter are in their ranges: also a name of 1 to 16 bytes
pub record AreFit (name password : List ℕ) (kept : ℕ) : Type 0 where
  pub name_some : 1 ≤ length name
  pub name_few : length name ≤ 16
  pub others : AreKept password kept

-- Whether opening a new meter on this handle has this outcome and leaves this meter. Memory may run
-- out only if the arguments are in their ranges; a meter that is already open is unchanged.
abbrev pub OpenOutcome : List ℕ → List ℕ → ℕ → Option MeterState → CallResult → Option MeterState
    → Type 0
OpenOutcome name password kept None outcome.Done (Some m) = AreFit name password kept
    × IsNew name password kept m
OpenOutcome name password kept None outcome.WrongArgument None = ¬ (AreFit name password kept)
OpenOutcome name password kept None outcome.NoMemory None = AreFit name password kept
OpenOutcome name password kept None _ new = ⊥
OpenOutcome name password kept (Some m) outcome.IsOpen new = new ≡ Some m
OpenOutcome name password kept (Some m) _ new = ⊥

-- whether `meter_open` returned this code and left this meter
pub record MeterOpen (name password : List ℕ) (kept : ℕ) (old : Option MeterState) (code : ℕ)
    (new : Option MeterState) : Type 0 where
  pub outcome : CallResult
  pub does : OpenOutcome name password kept old outcome new
  pub returns : code ≡ code_of outcome

-- whether a text is not a trace
pub record IsNoTrace (text : List ℕ) : Type 0 where
  pub fault : TraceFault
  pub returns : trace_of text ≡ Err fault

-- Whether opening a meter that continues from the trace `text` has this outcome and leaves this
-- meter. A text that is not a trace is a wrong argument. The name is that of the trace, so only the
-- password and the number of kept events are judged.
abbrev pub ResumeOutcome : List ℕ → List ℕ → ℕ → Option MeterState → CallResult → Option MeterState
    → Type 0
ResumeOutcome text password kept None outcome.Done (Some m) = Resumes text password kept m
ResumeOutcome text password kept None outcome.WrongArgument None =
    (¬ (AreKept password kept)) ⊎ IsNoTrace text
ResumeOutcome text password kept None outcome.NoMemory None = AreKept password kept
ResumeOutcome text password kept None _ new = ⊥
ResumeOutcome text password kept (Some m) outcome.IsOpen new = new ≡ Some m
ResumeOutcome text password kept (Some m) _ new = ⊥

-- whether `meter_resume` returned this code and left this meter
pub record MeterResume (text password : List ℕ) (kept : ℕ) (old : Option MeterState) (code : ℕ)
    (new : Option MeterState) : Type 0 where
  pub outcome : CallResult
  pub does : ResumeOutcome text password kept old outcome new
  pub returns : code ≡ code_of outcome

-- ---- sessions

-- whether a call that returns no value besides its result returned this code
pub record ReturnsOutcome (does : Result Unit MeterFault → Type 0) (code : ℕ) : Type 0 where
  pub result : Result Unit MeterFault
  pub done : does result
  pub returns : code ≡ code_of (outcome_of_call result)

-- whether `meter_open_session` returned this code on an open meter and left this one
abbrev pub MeterOpenSession : ℕ → MeterState → ℕ → MeterState → Type 0
MeterOpenSession session m code m' =
    ReturnsOutcome (λ (r : Result Unit MeterFault). OpensBy m session r m') code

-- whether `meter_feed` returned this code on an open meter and left this one, with the bytes that
-- the session received
abbrev pub MeterFeed : ℕ → List ℕ → MeterState → ℕ → MeterState → Type 0
MeterFeed session bytes m code m' =
    ReturnsOutcome (λ (r : Result Unit MeterFault). FeedsBy m session bytes r m') code

-- whether `meter_finish` returned this code on an open meter and left this one, whose session has
-- received all its input
abbrev pub MeterFinish : ℕ → MeterState → ℕ → MeterState → Type 0
MeterFinish session m code m' =
    ReturnsOutcome (λ (r : Result Unit MeterFault). FinishesBy m session r m') code

-- whether `meter_close_session` returned this code on an open meter and left this one
abbrev pub MeterCloseSession : ℕ → MeterState → ℕ → MeterState → Type 0
MeterCloseSession session m code m' =
    ReturnsOutcome (λ (r : Result Unit MeterFault). ClosesBy m session r m') code

-- the outcome of `meter_next`
abbrev pub next_outcome : Result Given MeterFault → CallResult
next_outcome (Ok g) = outcome_of_session g
next_outcome (Err f) = of_fault f

-- The length that `meter_next` returns: of the frame that was written or that found no room, in
-- bytes. It is 0 if there is no frame and on an error.
abbrev pub next_length : Result Given MeterFault → ℕ
next_length (Ok g) = length_of g
next_length (Err f) = 0

-- whether `meter_next` returned this code and this length on an open meter, with the buffer and the
-- meter that it left
pub record MeterNext (session : ℕ) (buffer buffer' : List ℕ) (count : ℕ) (m : MeterState) (code : ℕ)
    (m' : MeterState) : Type 0 where
  pub result : Result Given MeterFault
  pub done : NextBy m session buffer result m' buffer'
  pub returns : code ≡ code_of (next_outcome result)
  pub counted : count ≡ next_length result

-- ---- events of the meter's own

-- whether `meter_press` returned this code and the number of the result of the press, and left this
-- meter
pub record MeterPress (number : ℕ) (m : MeterState) (code : ℕ) (m' : MeterState) : Type 0 where
  pub result : ResultCode
  pub takes : Takes m Button (Code result) m'
  pub returns : code ≡ code_of outcome.Done
  pub numbered : number ≡ result_code.code_of result

-- the firings after an error: 0 of each limiter and side
abbrev pub no_fired : Fired
no_fired = record { over = 0; under = 0; export_over = 0; export_under = 0 }

-- the outcome of a block of samples
abbrev pub samples_outcome : Result Fired MeterFault → CallResult
samples_outcome (Ok fired) = outcome.Done
samples_outcome (Err f) = of_fault f

-- the numbers of firings that a block of samples returns; all are 0 on an error
abbrev pub firings_of_result : Result Fired MeterFault → Fired
firings_of_result (Ok fired) = fired
firings_of_result (Err f) = no_fired

-- the numbers of firings as the struct `meter_fired` that C receives
abbrev pub firings_of : Fired → Firings
firings_of fired = record {
  over = fired.over;
  under = fired.under;
  export_over = fired.export_over;
  export_under = fired.export_under;
}

-- whether `meter_samples` or `meter_sample_pairs` returned this code and these firings for the
-- samples, and left this meter
pub record MeterSamples (samples : Samples) (firings : Firings) (m : MeterState) (code : ℕ)
    (m' : MeterState) : Type 0 where
  pub result : Result Fired MeterFault
  pub done : SamplesBy m samples result m'
  pub returns : code ≡ code_of (samples_outcome result)
  pub fires : firings ≡ firings_of (firings_of_result result)

-- whether `meter_moment` returned this code and the number of schedules that were due, and left
-- this meter
pub record MeterMoment (moment ran : ℕ) (m : MeterState) (code : ℕ) (m' : MeterState) : Type 0 where
  pub tick : Tick
  pub takes : TakesMoment m moment tick m'
  pub returns : code ≡ code_of (of_tick tick)
  pub counted : ran ≡ run_count_of tick

-- ---- the state of the meter

-- whether a call that changes nothing returned `Done` and a value with the property `tells` of the
-- meter's state
pub record OnlyReads (code : ℕ) (m m' : MeterState) (tells : World → Type 0) : Type 0 where
  pub same : m' ≡ m
  pub returns : code ≡ code_of outcome.Done
  pub value : (w : World) → StandsFor m.recorder.core w → tells w

-- whether `meter_control_state` returned the number of control_state (class 70, attribute 3): 0
-- disconnected, 1 connected, 2 ready for reconnection
abbrev pub MeterControlState : ℕ → MeterState → ℕ → MeterState → Type 0
MeterControlState state m code m' =
    OnlyReads code m m' (λ (w : World). state ≡ state_number w.control.state)

-- whether `meter_control_mode` returned the number of control_mode (class 70, attribute 4), 0 to 6
abbrev pub MeterControlMode : ℕ → MeterState → ℕ → MeterState → Type 0
MeterControlMode mode m code m' =
    OnlyReads code m m' (λ (w : World). mode ≡ mode_number w.control.mode)

-- whether `meter_supply` returned that the supply is on, which it is exactly if control_state
-- (class 70, attribute 3) is Connected
abbrev pub MeterSupply : Bool → MeterState → ℕ → MeterState → Type 0
MeterSupply is_on m code m' =
    OnlyReads code m m' (λ (w : World). is_on ≡ is_state w.control.state Connected)

-- the outcome of reading the last moment: done, or that there was none
abbrev pub last_moment_outcome : Option ℕ → CallResult
last_moment_outcome None = outcome.NoMoment
last_moment_outcome (Some moment) = outcome.Done

-- the last moment as C receives it, in seconds since 2000-01-01 00:00:00; 0 if there was none
abbrev pub moment_of : Option ℕ → ℕ
moment_of None = 0
moment_of (Some moment) = moment

-- whether `meter_last_moment` returned this code and this moment, and changed nothing
pub record MeterLastMoment (moment : ℕ) (m : MeterState) (code : ℕ) (m' : MeterState) : Type 0 where
  pub same : m' ≡ m
  pub returns : (w : World) → StandsFor m.recorder.core w
      → code ≡ code_of (last_moment_outcome w.moment)
  pub value : (w : World) → StandsFor m.recorder.core w → moment ≡ moment_of w.moment

-- ---- the trace

-- whether a text was copied to the start of the buffer; or, if the buffer is too short, only its
-- length was returned
abbrev pub WritesText : List ℕ → List ℕ → List ℕ → ℕ → CallResult → Type 0
WritesText text buffer buffer' count outcome.Done = (buffer' ≡ text ++ drop count buffer)
    × (count ≡ length text)
WritesText text buffer buffer' count outcome.NoRoom = (buffer' ≡ buffer) × (count ≡ length text)
    × (length buffer < count)
WritesText text buffer buffer' count _ = ⊥

-- whether a text was copied to the buffer, or only its length was returned; or memory ran out, so
-- the length is 0 and the buffer is unchanged
abbrev pub WritesBy : {E : Type 0} → Result (List ℕ) E → List ℕ → List ℕ → ℕ → CallResult → Type 0
WritesBy (Ok text) buffer buffer' count outcome = WritesText text buffer buffer' count outcome
WritesBy (Err error) buffer buffer' count outcome.NoMemory = (buffer' ≡ buffer) × (count ≡ 0)
WritesBy (Err error) buffer buffer' count _ = ⊥

-- whether the text of the recorder's trace was copied to the buffer, or only its length was
-- returned
pub record WritesTrace (r : Recording) (buffer buffer' : List ℕ) (count : ℕ) (outcome : CallResult)
    : Type 0 where
  pub text : List ℕ
  pub tells : TellsRun r text
  pub writes : WritesText text buffer buffer' count outcome

-- whether writing the recorder's trace has this outcome; if memory ran out, the length is 0 and the
-- buffer is unchanged
abbrev pub ExportOutcome : Recording → List ℕ → List ℕ → ℕ → CallResult → Type 0
ExportOutcome r buffer buffer' count outcome.NoMemory = (buffer' ≡ buffer) × (count ≡ 0)
ExportOutcome r buffer buffer' count outcome = WritesTrace r buffer buffer' count outcome

-- whether `meter_export` returned this code and this length with this buffer, and changed nothing
-- in the meter
pub record MeterExport (buffer buffer' : List ℕ) (count : ℕ) (m : MeterState) (code : ℕ)
    (m' : MeterState) : Type 0 where
  pub same : m' ≡ m
  pub outcome : CallResult
  pub does : ExportOutcome m.recorder buffer buffer' count outcome
  pub returns : code ≡ code_of outcome
