-- The numbers of `include/meter.h`.
--     code_of                                 the number of the result of a call
--     of_fault, of_tick                       the outcome of a fault, or of a moment
--     outcome_of_call, outcome_of_session     the outcome of a call, or of a session's step
use Rattle.std.specs.Prelude.{ℕ, Result, Ok, Err}
use Rattle.meter.specs.declared.outcome.CallResult.{CallResult}
use Rattle.meter.specs.declared.outcome.CallResult.TheVariants as outcome
use Rattle.session_core.specs.declared.end.SessionEnd.{SessionEnd}
use Rattle.session_core.specs.declared.end.SessionEnd.TheVariants as ending
use Rattle.embedded_meter.specs.declared.fault.MeterFault.{MeterFault}
use Rattle.embedded_meter.specs.declared.fault.MeterFault.TheVariants as fault
use Rattle.embedded_meter.specs.declared.given.Given.{Given}
use Rattle.embedded_meter.specs.declared.given.Given.TheVariants as given
use Rattle.embedded_meter.specs.declared.given.Tick.{Tick}
use Rattle.embedded_meter.specs.declared.given.Tick.TheVariants as tick

-- the number of an outcome
abbrev pub code_of : CallResult → ℕ
code_of outcome.Done = 0
code_of outcome.Wait = 1
code_of outcome.Closed = 2
code_of outcome.Cut = 3
code_of outcome.BadVersion = 4
code_of outcome.TooLong = 5
code_of outcome.Stale = 6
code_of outcome.NoMoment = 7
code_of outcome.NoMemory = 8
code_of outcome.NotOpen = 9
code_of outcome.IsOpen = 10
code_of outcome.NoSession = 11
code_of outcome.SessionTaken = 12
code_of outcome.WrongArgument = 13
code_of outcome.NoRoom = 14

-- the outcome of a fault
abbrev pub of_fault : MeterFault → CallResult
of_fault fault.NoSession = outcome.NoSession
of_fault fault.SessionTaken = outcome.SessionTaken
of_fault fault.TooManySamples = outcome.WrongArgument
of_fault fault.Uneven = outcome.WrongArgument
of_fault fault.Memory = outcome.NoMemory

-- the outcome of a call without a value
abbrev pub outcome_of_call : Result Unit MeterFault → CallResult
outcome_of_call (Ok done) = outcome.Done
outcome_of_call (Err f) = of_fault f

-- the outcome of the end of a session
abbrev pub of_end : SessionEnd → CallResult
of_end ending.Closed = outcome.Closed
of_end ending.Cut = outcome.Cut
of_end ending.BadVersion = outcome.BadVersion
of_end ending.TooLong = outcome.TooLong

-- the outcome of what a session gave
abbrev pub outcome_of_session : Given → CallResult
outcome_of_session (given.Frame count) = outcome.Done
outcome_of_session (given.NoRoom count) = outcome.NoRoom
outcome_of_session given.Wait = outcome.Wait
outcome_of_session (given.End end) = of_end end

-- the number of bytes of the frame that a session gave, or that found no room in the buffer; 0 if
-- there is no frame
abbrev pub length_of : Given → ℕ
length_of (given.Frame count) = count
length_of (given.NoRoom count) = count
length_of given.Wait = 0
length_of (given.End end) = 0

-- the outcome of a moment
abbrev pub of_tick : Tick → CallResult
of_tick (tick.Ran count) = outcome.Done
of_tick (tick.Stale last) = outcome.Stale

-- the number of schedules that a moment ran; 0 if the moment was stale
abbrev pub run_count_of : Tick → ℕ
run_count_of (tick.Ran count) = count
run_count_of (tick.Stale last) = 0
