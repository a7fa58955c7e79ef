use Rattle.std.proofs.Common.{[], arith, rules}
use Rattle.sqlite.specs.Held.{state}
use Rattle.sqlite.specs.Listing.{understood}
use Rattle.sqlite.specs.State.{HasCleanDisk}
use Rattle.sqlite.proofs.Callers.{IsPlain, begun_plain}
use Rattle.sqlite_ledger.specs.Jobs.{select_jobs}
use Rattle.sqlite_ledger.proofs.ReadLemmas.{jobs_plain}
use Rattle.sqlite_ledger.proofs.comparison.lists_jobs.Goals as goal

pub returns-clause-lists : goal.returns-clause-lists
returns-clause-lists g c clean =
    let now = c.are_jobs.new.rows.conn.now in
    let late : HasCleanDisk (state g.S.Store now) = search rules in
    let early : HasCleanDisk (state g.S.Store c.in_ok-rows.rows.conn.now) =
    omega (arith, c.are_jobs.ensures.survives.clean) in
    let plain : IsPlain (understood c.args.conn.now.schema select_jobs) =
    rw c.requires jobs_plain in
    let begun = begun_plain g.S.Store select_jobs [] c.args.conn.now c.in_ok-rows.rows.conn.now
    plain (c.in_ok-rows.ensures.begun early) in
    let lists = c.are_jobs.ensures.lists late c.args.conn.now c.requires begun in
    search rules

pub returns-clause-unchanged : goal.returns-clause-unchanged
returns-clause-unchanged g c clean =
    let now = c.are_jobs.new.rows.conn.now in
    let late : HasCleanDisk (state g.S.Store now) = search rules in
    let early : HasCleanDisk (state g.S.Store c.in_ok-rows.rows.conn.now) =
    omega (arith, c.are_jobs.ensures.survives.clean) in
    let plain : IsPlain (understood c.args.conn.now.schema select_jobs) =
    rw c.requires jobs_plain in
    let begun = begun_plain g.S.Store select_jobs [] c.args.conn.now c.in_ok-rows.rows.conn.now
    plain (c.in_ok-rows.ensures.begun early) in
    let same = c.are_jobs.ensures.unchanged late c.args.conn.now begun in
    search rules
