-- The first events were copied.
use Rattle.std.proofs.Common.{◌≡◌, take}
use Rattle.journal_files.proofs.renewing.copy_events.Given as goal

abbrev pub invariant-events : goal.invariant-events
invariant-events l = l.copies ≡ take l.event-index l.events
