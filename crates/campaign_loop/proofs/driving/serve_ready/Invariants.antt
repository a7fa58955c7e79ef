use Rattle.std.proofs.Common.{◌≡◌, ◌≤◌}
use Rattle.std.specs.Prelude.{vec_len}
use Rattle.campaign_loop.specs.Driving.{Drives}
use Rattle.campaign_loop.proofs.driving.serve_ready.Given as goal

-- the loop so far continues the steps, and keeps some of the places
abbrev pub invariant-ready : goal.invariant-ready
invariant-ready g l = record {
  driven : Drives g.B.Book.is_honest g.B.Book.is_marked l.fn.board
      (g.W.Wires.log l.fn.wires) l.board (g.W.Wires.log l.wires);
  len : vec_len l.ready ≡ vec_len l.fn.ready;
  fits : l.kept ≤ l.index;
}
