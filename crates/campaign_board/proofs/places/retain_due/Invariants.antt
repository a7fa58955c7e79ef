use Rattle.std.proofs.Common.{◌≡◌, ◌<◌, ◌≤◌, ℕ}
use Rattle.std.specs.Prelude.{slice_index_or, vec_len}
use Rattle.campaign_board.specs.Updates.{IsDueAt}
use Rattle.campaign_board.proofs.places.retain_due.Given as goal

-- the marks kept so far are due
abbrev pub invariant-marks : goal.invariant-marks
invariant-marks l = record {
  len : vec_len l.marks ≡ vec_len l.initial.marks;
  fits : l.kept ≤ l.index;
  due : (i : ℕ) → i < l.kept → IsDueAt l.places (slice_index_or l.marks.items i 0);
}
