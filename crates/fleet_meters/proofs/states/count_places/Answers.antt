use Rattle.std.proofs.Common.{true, false, rules, arith}
use Rattle.fleet_meters.proofs.Counting.{counts_on, counts_all, first_at}
use Rattle.fleet_meters.proofs.states.count_places.Goals as goal
use Rattle.fleet_meters.proofs.states.count_places.Goals.{then-is_state, else-is_state}

pub places-preserved : goal.places-preserved
places-preserved c =
    let has = c.state_or.ensures _ (first_at c.args.terms.now c.args.firsts c.places.at
    c.fault_of.result c.with_fault-first.result c.fault_of.ensures.value
    c.with_fault-first.ensures c.requires) in
    elim c.if-is_state.branch [
      | then-is_state w ↦ record {
        within = omega (arith, w.count-is, c.places.invariant.within);
        below = omega (arith, c.places-test.true);
        counts = counts_on c.args.terms.now c.args.places.now c.args.state c.state_or.result
            c.places.at c.places.count c.if-is_state.count _ true
            (search rules) (omega (arith, w.count-is)) c.places-test.true (search rules) has
            c.places.invariant.counts;
      }
      | else-is_state w ↦ record {
        within = omega (arith, w.count-is, c.places.invariant.within);
        below = omega (arith, c.places-test.true);
        counts = counts_on c.args.terms.now c.args.places.now c.args.state c.state_or.result
            c.places.at c.places.count c.if-is_state.count _ false
            (search rules) (omega (arith, w.count-is)) c.places-test.true (search rules) has
            c.places.invariant.counts;
      }
    ]

pub returns : goal.returns
returns c = counts_all c.args.terms.now c.args.places.now c.args.state c.places.at c.places.count
    (omega (arith, c.places-test.false, c.places.invariant.below)) c.places.invariant.counts
