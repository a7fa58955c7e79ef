use Rattle.std.proofs.Common.{[], ◌∷◌, ◌++◌, take, ap, sym, ◌∙◌}
use Rattle.relay_recorder.proofs.Pushed.{take_got}
use Rattle.relay_recorder.proofs.recorder.Recorder.copy_events.Goals as goal

pub events-preserved : goal.events-preserved
events-preserved c =
    let events = c.args.self.now.events in
    c.in_ok-push.ensures.ok
    ∙ ap (λ es. es ++ c.in_ok-try_copy.field-0 ∷ []) c.events.invariant
    ∙ ap (λ e. take c.events.i events ++ e ∷ []) c.in_ok-try_copy.ensures
    ∙ sym (take_got events c.events.i c.event.result.now c.event.ensures)
