use Rattle.std.proofs.Common.{◌≡◌, take}
use Rattle.relay_recorder.proofs.recorder.Recorder.copy_events.Given as goal

abbrev pub invariant-events : goal.invariant-events
invariant-events l = l.events ≡ take l.i l.self.events
