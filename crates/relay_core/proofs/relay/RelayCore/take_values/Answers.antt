use Rattle.std.proofs.Common.{ℕ, List, [], arith, subst, sym}
use Rattle.std.proofs.lemmas.List.{take_all}
use Rattle.relay_core.specs.declared.sampling.FiringCounts.{FiringCounts}
use Rattle.relay_core.specs.Sampling.{no_firings, imports}
use Rattle.relay_core.specs.Taking.{Takes}
use Rattle.relay_core.proofs.SampleLemmas.{takes_none, takes_values_on}
use Rattle.relay_core.proofs.relay.RelayCore.take_values.Goals as goal

pub samples-init : goal.samples-init
samples-init c = record {
  takes = subst (λ (f : FiringCounts). Takes c.args.self.now c.args.self.now no_firings f [])
      (sym c.zero-firings.ensures.firings)
      (takes_none c.args.self.now no_firings);
  within = omega arith;
  right = c.scan_at-scan.ensures.right;
  counted = c.zero-firings.ensures.none;
}

pub scan_at-scan-requires-in-samples-clause-right :
    goal.scan_at-scan-requires-in-samples-clause-right
scan_at-scan-requires-in-samples-clause-right c = c.samples.invariant.right

pub take_stretch-at-requires-clause-counted : goal.take_stretch-at-requires-clause-counted
take_stretch-at-requires-clause-counted c = c.samples.invariant.counted

pub samples-preserved : goal.samples-preserved
samples-preserved c =
    let taken = c.take_stretch-at.ensures in
    record {
      takes = takes_values_on c.args.self.now c.samples.self c.take_stretch-at.new.self no_firings
          c.samples.firings c.take_stretch-at.new.firings
          c.args.values.now c.samples.at c.take_stretch-at.result c.samples.invariant.takes
          taken.takes;
      within = taken.within;
      right = c.scan_at-scan-in-samples.ensures.right;
      counted = taken.counted;
    }

pub returns : goal.returns
returns c =
    let P : List ℕ → Type 0 = λ values. Takes c.args.self.now c.samples.self no_firings
    c.samples.firings (imports values) in
    subst P (take_all c.samples.at c.args.values.now c.samples-test.false) c.samples.invariant.takes
