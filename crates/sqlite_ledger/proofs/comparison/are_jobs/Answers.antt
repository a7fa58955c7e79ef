use Rattle.std.proofs.Common.{◌∙◌, ◌∷◌, ◌++◌, [], List, IsTrue, take, subst, sym, ap, arith, refl, rules}
use Rattle.std.proofs.lemmas.List.{length-take-le, take_all, take_more}
use Rattle.sqlite.specs.Held.{state}
use Rattle.sqlite.specs.State.{HasCleanDisk, Survives}
use Rattle.client_core.specs.declared.job.Job.{Job}
use Rattle.sqlite_ledger.specs.Jobs.{ListsJobs}
use Rattle.sqlite_ledger.specs.Streams.{GivesAll}
use Rattle.sqlite_ledger.proofs.ReadLemmas.{ok_map}
use Rattle.sqlite_ledger.proofs.StreamLemmas.{HasListed, lists_all, lists_more, lists_none}
use Rattle.sqlite_ledger.proofs.comparison.are_jobs.Goals as goal

pub jobs-init : goal.jobs-init
jobs-init g c = (
  refl,
  search rules,
  λ clean start begun. lists_none g.S.Store start c.args.rows.now.conn.now begun,
)

pub jobs-preserved : goal.jobs-preserved
jobs-preserved g c =
    let first = c.args.rows.now.conn.now in
    let now = c.jobs.rows.conn.now in
    let new = c.next_is.new.rows.conn.now in
    let jobs = c.args.jobs.now in
    let place = c.jobs.place in
    let job = c.index-jobs-place.result in
    let survives : Survives (state g.S.Store first) (state g.S.Store new) (λ _. ⊥) =
    search rules in (
      c.next_is.ensures.reference ∙ c.jobs.invariant.0,
      survives,
      λ clean start begun.
          let early : HasCleanDisk (state g.S.Store now) =
          omega (arith, c.next_is.ensures.survives.clean) in
          let is : IsTrue c.in_ok-next_is.field-0 = search rules in
          subst (λ (js : List Job). HasListed g.S.Store start new js)
          (sym (take_more jobs place job c.jobs-test.true
          ∙ ap (λ (j : Job). take place jobs ++ j ∷ []) (sym c.index-jobs-place.is)))
          (lists_more g.S.Store start now new (take place jobs)
          (c.jobs.invariant.2 early start begun) place job
          (length-take-le place jobs (omega arith)) (c.in_ok-next_is.ensures.unchanged clean)
          (c.in_ok-next_is.ensures.row clean is)),
    )

pub returns-clause-lists : goal.returns-clause-lists
returns-clause-lists g c clean start has begun =
    let now = c.jobs.rows.conn.now in
    let new = c.is_last.new.rows.conn.now in
    let jobs = c.args.jobs.now in
    let early : HasCleanDisk (state g.S.Store now) =
    omega (arith, c.is_last.ensures.survives.clean) in
    let listed : HasListed g.S.Store start now jobs =
    subst (λ (js : List Job). HasListed g.S.Store start now js)
    (take_all c.jobs.place jobs c.jobs-test.false) (c.jobs.invariant.2 early start begun) in
    ok_map c.is_last.result (λ is. IsTrue is → GivesAll g.S.Store now new)
    (λ is. IsTrue is → ListsJobs (state g.S.Store start) (state g.S.Store new) jobs)
    (c.is_last.ensures.whole clean)
    (λ is gives whole. lists_all g.S.Store start now new jobs listed has (gives whole))
