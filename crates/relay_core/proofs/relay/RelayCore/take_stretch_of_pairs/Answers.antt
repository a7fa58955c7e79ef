use Rattle.std.proofs.Common.{◌≡◌, ℕ, ◌+◌, ◌-◌, ◌*◌, List, [], ◌∷◌, take, drop, get_or, arith, subst, sym}
use Rattle.relay_core.specs.Sampling.{pairs}
use Rattle.relay_core.specs.Taking.{Takes}
use Rattle.relay_core.proofs.SampleLemmas.{take_one, takes_one, takes_on, at_most_more}
use Rattle.relay_core.proofs.relay.RelayCore.take_stretch_of_pairs.Goals as goal

pub returns-then-quiet-gt0-clause-takes : goal.returns-then-quiet-gt0-clause-takes
returns-then-quiet-gt0-clause-takes c =
    let count = c.quiet_of-quiet-2.result in
    let P : ℕ → Type 0 = λ n. Takes c.args.self.now c.skip_pairs.new.self c.args.firings.now
    c.args.firings.now
    (pairs (take n (drop c.args.at c.args.values.now)) (take n (drop c.args.at c.args.others.now)))
    in
    let back : c.args.at + count - c.args.at ≡ count = omega arith in
    subst P back (c.skip_pairs.ensures c.args.firings.now)

pub count-requires-2 : goal.count-requires-2
count-requires-2 c =
    at_most_more (2 * c.args.at + 1) 512 c.count.new.self
    (omega (arith, c.requires.within, c.requires.within_max))
    (c.count.ensures.within_one (2 * c.args.at) c.requires.counted)

pub returns-clause-takes : goal.returns-clause-takes
returns-clause-takes c =
    let old = c.args.self.now in
    let next = c.take_sample-fire-2.new.self in
    let both : Takes old next c.args.firings.now c.count-2.new.self _ =
    takes_on old c.take_sample-fire.new.self next c.args.firings.now c.count.new.self
    c.count-2.new.self _ _
    (takes_one old c.take_sample-fire.new.self c.args.firings.now c.count.new.self _
    c.take_sample-fire.result
    c.take_sample-fire.ensures.world c.take_sample-fire.ensures.fire c.count.ensures.firings)
    (takes_one c.take_sample-fire.new.self next c.count.new.self c.count-2.new.self _
    c.take_sample-fire-2.result
    c.take_sample-fire-2.ensures.world c.take_sample-fire-2.ensures.fire c.count-2.ensures.firings)
    in
    let P : List ℕ → Type 0 = λ values. Takes old next c.args.firings.now c.count-2.new.self
    (pairs values (take 1 (drop c.args.at c.args.others.now))) in
    let value = take_one c.args.values.now c.args.at 0 c.requires.within in
    let Q : List ℕ → Type 0 = λ others. Takes old next c.args.firings.now c.count-2.new.self
    (pairs (get_or c.args.values.now c.args.at 0 ∷ []) others) in
    let other = take_one c.args.others.now c.args.at 0
    (omega (arith, c.requires.within, c.requires.same_length)) in
    subst P (sym value) (subst Q (sym other) both)

pub returns-clause-counted : goal.returns-clause-counted
returns-clause-counted c =
    at_most_more (2 * c.args.at + 1 + 1) (2 * (c.args.at + 1)) c.count-2.new.self (omega arith)
    (c.count-2.ensures.within_one (2 * c.args.at + 1)
    (c.count.ensures.within_one (2 * c.args.at) c.requires.counted))
