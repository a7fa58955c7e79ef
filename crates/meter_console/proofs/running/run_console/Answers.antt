use Rattle.std.proofs.Common.{arith, refl, ap, ◌∙◌}
use Rattle.meter_console.proofs.Handing.{hands_none, hands_on, ends_all, ends_some}
use Rattle.meter_console.proofs.running.run_console.Goals as goal
use Rattle.meter_console.proofs.running.run_console.Goals.{in-Passed, in-Skipped, in-Lost}
use Rattle.meter_console.proofs.running.run_console.Goals.{else-lines-test, then-lines-test+in-Failed}

pub lines-init : goal.lines-init
lines-init g c = record { room = c.args.buffer.room; few = omega arith; hands = hands_none _ _ }

pub lines-preserved : goal.lines-preserved
lines-preserved g c =
    elim c.match-pass_line.branch [
      | in-Passed w ↦ record {
        room = c.pass_line.ensures.room;
        few = omega (arith, w.lost-is);
        hands = hands_on c.lines.invariant.hands (w.in-Passed.ensures.passed refl)
            (omega (arith, w.lost-is));
      }
      | in-Skipped w ↦ record {
        room = c.pass_line.ensures.room;
        few = omega (arith, w.lost-is);
        hands = hands_on c.lines.invariant.hands (w.in-Skipped.ensures.skipped _ refl)
            (omega (arith, w.lost-is));
      }
      | in-Lost w ↦ record {
        room = c.pass_line.ensures.room;
        few = omega (arith, w.lost-is);
        hands = hands_on c.lines.invariant.hands (w.in-Lost.ensures.lost refl)
            (omega (arith, w.lost-is));
      }
    ]

pub returns-in-End : goal.returns-in-End
returns-in-End g c = ends_all _ c.lines.invariant.hands (c.in-End.ensures.end refl)
    (c.in-End.ensures.end_taken refl) refl

pub returns : goal.returns
returns g c =
    elim c.lines-test.branch [
      | else-lines-test w ↦ ends_some _ c.lines.invariant.hands (ap g.S.EventSink.taken w.sink-is)
          refl refl
      | then-lines-test+in-Failed w ↦ ends_some _ c.lines.invariant.hands
          (ap g.S.EventSink.taken w.sink-is ∙ w.in-Failed.ensures.failed refl) refl refl
    ]
