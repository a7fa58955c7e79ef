use Rattle.std.proofs.Common.{subst}
use Rattle.relay_core.specs.Agreeing.{Agree}
use Rattle.relay_core.specs.Opening.{world_of_opening}
use Rattle.relay_core.specs.Stands.{StandsFor}
use Rattle.relay_core.specs.World.{World}
use Rattle.relay_recorder.specs.Recording.{Recording}
use Rattle.relay_recorder.proofs.Replayed.{runs_again}
use Rattle.relay_recorder.proofs.recorder.Recorder.export.Goals as goal

pub returns-clause-replays : goal.returns-clause-replays
returns-clause-replays c = λ history origin stands.
    let world = world_of_opening c.in_ok-to_opening.field-0 in
    let agrees = subst (λ (r : Recording). (w : World) → StandsFor r.opening w
    → Agree world w) c.self.view_is c.in_ok-to_opening.ensures.agrees in
    runs_again c.args.self.now history origin world stands c.in_ok-to_opening.ensures.range agrees
