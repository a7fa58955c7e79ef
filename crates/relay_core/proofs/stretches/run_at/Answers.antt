use Rattle.std.proofs.Common.{sym, ℕ, ◌≤◌, IsTrue, take, drop, subst, arith}
use Rattle.std.specs.List.{All}
use Rattle.std.proofs.lemmas.List.Elements.{All-take}
use Rattle.lane_sampler.specs.Masks.{is_over, is_under}
use Rattle.relay_core.proofs.SampleLemmas.{over_are_of_kind, under_are_of_kind, equal_are_of_kind, neither_is_equal, take_fewer}
use Rattle.relay_core.proofs.stretches.run_at.Goals as goal

pub returns-then-over-gt0-clause-kind : goal.returns-then-over-gt0-clause-kind
returns-then-over-gt0-clause-kind c = λ n within.
    let P : ℕ → Type 0 = λ v. IsTrue (is_over c.args.scan.now.threshold v) in
    let rest = drop c.args.at c.args.values.now in
    let all = c.run_from-over.ensures.all_pass (is_over c.args.scan.now.threshold) c.args.values.now
    c.requires.right.over in
    let fewer : n ≤ c.run_from-over.result = omega (arith, within, c.from.ensures) in
    over_are_of_kind c.args.scan.now.threshold (take n rest)
    (subst (All P) (take_fewer n c.run_from-over.result rest fewer)
    (All-take P n (take c.run_from-over.result rest) all))

pub returns-then-under-gt0-clause-kind : goal.returns-then-under-gt0-clause-kind
returns-then-under-gt0-clause-kind c = λ n within.
    let P : ℕ → Type 0 = λ v. IsTrue (is_under c.args.scan.now.threshold v) in
    let rest = drop c.args.at c.args.values.now in
    let all = c.run_from-under.ensures.all_pass (is_under c.args.scan.now.threshold)
    c.args.values.now
    c.requires.right.under in
    let fewer : n ≤ c.run_from-under.result =
    omega (arith, within, c.from-then-under-gt0.ensures) in
    under_are_of_kind c.args.scan.now.threshold (take n rest)
    (subst (All P) (take_fewer n c.run_from-under.result rest fewer)
    (All-take P n (take c.run_from-under.result rest) all))

pub returns-clause-kind : goal.returns-clause-kind
returns-clause-kind c = λ n within.
    let run = c.equal_run.ensures in
    equal_are_of_kind c.args.scan.now.threshold c.args.values.now c.args.at n
    (omega (arith, within, run.within))
    (λ k below. run.equal k (omega (arith, below, within)))

pub returns-clause-non_zero : goal.returns-clause-non_zero
returns-clause-non_zero c =
    let over = c.run_from-over.ensures.passing (is_over c.args.scan.now.threshold) c.args.values.now
    c.requires.right.over (sym c.requires.right.len) in
    let under = c.run_from-under.ensures.passing (is_under c.args.scan.now.threshold)
    c.args.values.now c.requires.right.under (sym c.requires.right.len) in
    c.equal_run.ensures.equal_at_start c.requires.within
    (neither_is_equal c.args.values.now c.args.at c.args.scan.now.threshold c.requires.within
    (omega (arith, over, c.if-over-gt0.false)) (omega (arith, under, c.if-under-gt0.false)))
