use Rattle.std.proofs.Common.{◌≡◌, ℕ, ◌+◌, ◌-◌, List, take, drop, arith, subst, sym}
use Rattle.relay_core.specs.Sampling.{imports}
use Rattle.relay_core.specs.Taking.{Takes}
use Rattle.relay_core.proofs.SampleLemmas.{take_one, takes_one}
use Rattle.relay_core.proofs.relay.RelayCore.take_stretch.Goals as goal

pub returns-then-quiet-gt0-clause-takes : goal.returns-then-quiet-gt0-clause-takes
returns-then-quiet-gt0-clause-takes c =
    let count = c.quiet_of-quiet.result in
    let P : ℕ → Type 0 = λ n. Takes c.args.self.now c.skip_values.new.self c.args.firings.now
    c.args.firings.now (imports (take n (drop c.args.at c.args.values.now))) in
    let back : c.args.at + count - c.args.at ≡ count = omega arith in
    subst P back (c.skip_values.ensures c.args.firings.now)

pub returns-clause-takes : goal.returns-clause-takes
returns-clause-takes c =
    let old = c.args.self.now in
    let next = c.take_sample-fire.new.self in
    let P : List ℕ → Type 0 = λ values. Takes old next c.args.firings.now c.count.new.self
    (imports values) in
    subst P (sym (take_one c.args.values.now c.args.at 0 c.requires.within))
    (takes_one old next c.args.firings.now c.count.new.self _ c.take_sample-fire.result
    c.take_sample-fire.ensures.world c.take_sample-fire.ensures.fire c.count.ensures.firings)

pub returns-clause-counted : goal.returns-clause-counted
returns-clause-counted c = c.count.ensures.within_one c.args.at c.requires.counted
