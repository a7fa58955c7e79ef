use Rattle.std.proofs.Common.{ℕ, List, [], take, arith, subst, sym}
use Rattle.std.proofs.lemmas.List.{take_all}
use Rattle.relay_core.specs.declared.sampling.FiringCounts.{FiringCounts}
use Rattle.relay_core.specs.Sampling.{no_firings, pairs}
use Rattle.relay_core.specs.Taking.{Takes}
use Rattle.relay_core.proofs.SampleLemmas.{takes_none, takes_pairs_on}
use Rattle.relay_core.proofs.relay.RelayCore.take_pairs.Goals as goal

pub samples-init : goal.samples-init
samples-init c = record {
  takes = subst (λ (f : FiringCounts). Takes c.args.self.now c.args.self.now no_firings f [])
      (sym c.zero-firings.ensures.firings)
      (takes_none c.args.self.now no_firings);
  within = omega arith;
  right = c.scan_at-scan.ensures.right;
  other_right = c.scan_at-other_scan.ensures.right;
  counted = c.zero-firings.ensures.none;
}

pub scan_at-scan-requires-in-samples-clause-right :
    goal.scan_at-scan-requires-in-samples-clause-right
scan_at-scan-requires-in-samples-clause-right c = c.samples.invariant.right

pub scan_at-other_scan-requires-in-samples-clause-right :
    goal.scan_at-other_scan-requires-in-samples-clause-right
scan_at-other_scan-requires-in-samples-clause-right c = c.samples.invariant.other_right

pub take_stretch_of_pairs-at-requires-clause-counted :
    goal.take_stretch_of_pairs-at-requires-clause-counted
take_stretch_of_pairs-at-requires-clause-counted c = c.samples.invariant.counted

pub samples-preserved : goal.samples-preserved
samples-preserved c =
    let taken = c.take_stretch_of_pairs-at.ensures in
    record {
      takes = takes_pairs_on c.args.self.now c.samples.self c.take_stretch_of_pairs-at.new.self
          no_firings c.samples.firings
          c.take_stretch_of_pairs-at.new.firings c.args.values.now c.args.others.now c.samples.at
          c.take_stretch_of_pairs-at.result
          c.requires.same_length c.samples.invariant.takes taken.takes;
      within = taken.within;
      right = c.scan_at-scan-in-samples.ensures.right;
      other_right = c.scan_at-other_scan-in-samples.ensures.right;
      counted = taken.counted;
    }

pub returns : goal.returns
returns c =
    let P : List ℕ → Type 0 = λ values. Takes c.args.self.now c.samples.self no_firings
    c.samples.firings (pairs values (take c.samples.at c.args.others.now)) in
    let Q : List ℕ → Type 0 = λ others. Takes c.args.self.now c.samples.self no_firings
    c.samples.firings (pairs c.args.values.now others) in
    subst Q (take_all c.samples.at c.args.others.now
    (omega (arith, c.requires.same_length, c.samples-test.false)))
    (subst P (take_all c.samples.at c.args.values.now c.samples-test.false)
    c.samples.invariant.takes)
