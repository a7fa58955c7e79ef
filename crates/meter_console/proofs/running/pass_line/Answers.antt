use Rattle.std.proofs.Common.{refl}
use Rattle.meter_console.proofs.Handing.{line_passed, line_skipped}
use Rattle.meter_console.proofs.Shorts.{none_read}
use Rattle.meter_console.proofs.running.pass_line.Goals as goal

pub returns-in-Ok-None-clause-passed : goal.returns-in-Ok-None-clause-passed
returns-in-Ok-None-clause-passed g c = λ _ input before e f.
    line_passed _ _ _ _ before _ _ (rw c.as_slice.ensures.value
    (c.in-Whole.ensures.whole refl input e)) c.in-Ok-None.ensures.ok f

pub returns-in-Ok-Some-clause-skipped : goal.returns-in-Ok-Some-clause-skipped
returns-in-Ok-Some-clause-skipped g c = λ _ _ input before e f.
    line_passed _ _ _ _ before _ _ (rw c.as_slice.ensures.value
    (c.in-Whole.ensures.whole refl input e)) c.in-Ok-Some.ensures.ok f

pub returns-in-Err-clause-lost : goal.returns-in-Err-clause-lost
returns-in-Err-clause-lost g c = λ _ input before e f.
    line_passed _ _ _ _ before _ _ (rw c.as_slice.ensures.value
    (c.in-Whole.ensures.whole refl input e)) c.in-Err.ensures.err f

pub returns-in-TooLong-clause-skipped : goal.returns-in-TooLong-clause-skipped
returns-in-TooLong-clause-skipped g c = λ _ _ input before e f. line_skipped _ _ before _
    (c.in-TooLong.ensures.too_long refl input e) f

pub returns-in-End-clause-end : goal.returns-in-End-clause-end
returns-in-End-clause-end g c = λ _ bytes e. none_read bytes (c.in-End.ensures.end refl bytes e)
