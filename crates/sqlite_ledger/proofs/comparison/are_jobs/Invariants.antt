use Rattle.std.proofs.Common.{◌≡◌, take}
use Rattle.sqlite.specs.Held.{Held, state}
use Rattle.sqlite.specs.State.{HasCleanDisk, Survives}
use Rattle.sqlite_ledger.specs.Streams.{HasBegun}
use Rattle.sqlite_ledger.proofs.StreamLemmas.{HasListed}
use Rattle.sqlite_ledger.proofs.comparison.are_jobs.Given as goal

-- the rows so far are those of the jobs so far
abbrev pub invariant-jobs : goal.invariant-jobs
invariant-jobs g l =
    let first = l.fn.rows.conn.now in
    let now = l.rows.conn.now in
    (l.rows.conn.ghost_name ≡ l.fn.rows.conn.ghost_name)
    × Survives (state g.S.Store first) (state g.S.Store now) (λ _. ⊥)
    × (HasCleanDisk (state g.S.Store now) → (start : Held g.row.S.Denot)
    → HasBegun g.S.Store start first → HasListed g.S.Store start now (take l.place l.jobs))
