use Rattle.std.proofs.Common.{take}
use Rattle.campaign_board.specs.Updates.{ClearsMarked}
use Rattle.campaign_board.proofs.places.clear_marked.Given as goal

-- the marks so far were cleared
abbrev pub invariant-marks : goal.invariant-marks
invariant-marks l = ClearsMarked (take l.mark-index l.marks) l.fn.places.items l.places.items
