use Rattle.std.proofs.Common.{refl}
use Rattle.embedded_meter.proofs.Advancing.{advances_same, advances_none, advances_kept, due_by}
use Rattle.embedded_meter.proofs.Steps.{asks_works, works_short}
use Rattle.embedded_meter.proofs.connection.ClientSession.work.Goals as goal

pub returns-in-Nothing : goal.returns-in-Nothing
returns-in-Nothing c =
    asks_works c.args.self.now c.ask.new.self c.args.recorder.now c.ask.result c.ask.ensures

pub returns-in_err-apply-in-Asked : goal.returns-in_err-apply-in-Asked
returns-in_err-apply-in-Asked c =
    works_short _ _ _ _ c.from_residual.result _
    c.from_residual.ensures.1
    (advances_kept _ _ _ _ c.in_err-apply-in-Asked.ensures.0 c.in_err-apply-in-Asked.ensures.1)

pub returns-in_err-answer-in-Answered : goal.returns-in_err-answer-in-Answered
returns-in_err-answer-in-Answered c =
    works_short _ _ _ _ c.from_residual-in_err-answer-in-Answered.result _
    c.from_residual-in_err-answer-in-Answered.ensures.1
    (advances_kept _ _ _ _ c.in_err-answer-in-Answered.ensures refl)

pub returns-in_ok-answer-in-Answered : goal.returns-in_ok-answer-in-Answered
returns-in_ok-answer-in-Answered c = (
  advances_same _ _ _ c.in_ok-answer-in-Answered.ensures.0,
  c.in_ok-answer-in-Answered.ensures.1,
)

pub returns-in-Due : goal.returns-in-Due
returns-in-Due c = (advances_none _ _, due_by _ _ _ _ c.self.view_is c.in-Due.is)
