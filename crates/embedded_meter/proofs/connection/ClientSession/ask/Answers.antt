use Rattle.std.proofs.Common.{◌≡◌, Bool, true, false, refl, sym, ◌∙◌, ap, subst}
use Rattle.session_core.specs.Remaining.{is_asking}
use Rattle.session_core.specs.Progress.{IsOver}
use Rattle.session_core.specs.Standard.{greatest_frame}
use Rattle.session_core.proofs.Tasks.{asks_or_ends}
use Rattle.session_core.specs.declared.session.Session.{Session}
use Rattle.session_core.specs.declared.end.SessionEnd.{SessionEnd}
use Rattle.embedded_meter.specs.Dialogues.{Dialogue, PendsAtMost, awaits_reply}
use Rattle.embedded_meter.specs.declared.pending.Pending.{Pending}
use Rattle.embedded_meter.specs.declared.pending.Pending.TheVariants.{Nothing}
use Rattle.embedded_meter.proofs.connection.ClientSession.ask.Goals as goal

-- a session that is over awaits no reply
over_silent : (s : Session) (end : SessionEnd) (b : Bool) → is_asking s ≡ b → IsOver end s
    → is_asking s ≡ false
over_silent s end true asks over = absurd (asks_or_ends s end asks over.over)
over_silent s end false asks over = asks

-- nothing is pending
nothing_awaited : (u : Pending) (d : Dialogue) (s : Session)
    → record { session = s; pending = u } ≡ d → d.pending ≡ Nothing → awaits_reply u ≡ false
nothing_awaited u d s e nothing = ap (λ (x : Dialogue). awaits_reply x.pending) e
    ∙ ap awaits_reply nothing

-- no frame is pending
nothing_due : (u : Pending) (d : Dialogue) (s : Session)
    → record { session = s; pending = u } ≡ d → d.pending ≡ Nothing
    → PendsAtMost greatest_frame u
nothing_due u d s e nothing = subst (PendsAtMost greatest_frame)
    (sym (ap (λ (x : Dialogue). x.pending) e ∙ nothing)) tt

pub invariant_of-self : goal.invariant_of-self
invariant_of-self c = record {
  agrees = c.in_err-event.ensures.not_asking
      ∙ sym (nothing_awaited _ _ _ c.self.view_is c.requires);
  within_max = nothing_due _ _ _ c.self.view_is c.requires;
}

pub invariant_of-self-in-End : goal.invariant_of-self-in-End
invariant_of-self-in-End c =
    record {
      agrees = over_silent _ c.in-End.end _ refl
          (rw c.in-End.is at c.in_ok-event.ensures.leaves)
          ∙ sym (nothing_awaited _ _ _ c.self.view_is c.requires);
      within_max = nothing_due _ _ _ c.self.view_is c.requires;
    }
