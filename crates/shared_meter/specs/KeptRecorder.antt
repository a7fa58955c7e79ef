-- The view that contracts have of a recorder in a lock.
use Rattle.std.specs.Prelude.{Option}
use Rattle.relay_core.specs.declared.opening.Opening.{Opening}
use Rattle.relay_recorder.specs.Recording.{Recording}
use Rattle.shared_meter.specs.Pending.{PendingView}

-- The recorder, the opening (saved state) of the core that it started with, and the lines of its
-- journal, if it has one.
pub record KeptRecorder : Type 0 where
  pub recorder : Recording
  pub origin : Opening
  pub pending : Option PendingView
