-- What has been done so far, and that the session has yet to do the rest. Each task reduces the
-- load.
use Rattle.std.proofs.Common.{◌≡◌, ℕ, List, [], false}
use Rattle.session_io.specs.Order.{Happening, IsAt, ComesOn}
use Rattle.relay_events.specs.declared.reply.Reply.{Reply}
use Rattle.session_io.specs.Serving.{remaining_plan}
use Rattle.session_io.specs.Settling.{HasDone}
use Rattle.session_io.specs.Sides.{outlets_of}
use Rattle.session_core.specs.Remaining.{still_sends, is_asking, is_finished, load_of}
use Rattle.session_io.proofs.serving.settle.Given as goal

abbrev pub invariant-due : goal.invariant-due
invariant-due g l = record {
  reached : HasDone g.M.Meter.steps g.F.Form.written_as (remaining_plan l.initial.session)
      (outlets_of g.W.Writer.contents g.W.Writer.failures l.initial.writer l.initial.meter) []
      l.session (outlets_of g.W.Writer.contents g.W.Writer.failures l.writer l.meter);
  silent : is_asking l.session ≡ false;
  finished : is_finished l.session ≡ is_finished l.initial.session;
  writable : g.W.Writer.can_write l.writer;
  even : g.W.Writer.failures l.writer ≡ g.W.Writer.failures l.initial.writer;
  order : (password : List ℕ) (texts_of : List ℕ → List Reply → List (List ℕ))
      (happened : List Happening)
      → IsAt g.F.Form.written_as password texts_of (still_sends l.initial.session) happened
      → ComesOn g.F.Form.written_as password texts_of (still_sends l.session) happened
      (g.V.SessionWatch.passed l.initial.watch) (g.V.SessionWatch.passed l.watch);
}

abbrev pub decreases-due : goal.decreases-due
decreases-due g l = load_of l.session
