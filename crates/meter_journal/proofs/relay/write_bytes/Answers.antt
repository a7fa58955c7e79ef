use Rattle.std.proofs.Common.{sym, subst, ap, ◌∙◌, List, ℕ}
use Rattle.meter_journal.proofs.OutputLemmas.{given_more, given_still, GivenTo}
use Rattle.meter_journal.proofs.relay.write_bytes.Goals.{in-Ok, in-Err}
use Rattle.meter_journal.proofs.relay.write_bytes.Goals as goal

pub writes-preserved : goal.writes-preserved
writes-preserved g c =
    let contents = g.W.Write.contents in
    let old = contents c.args.output.now in
    let now = contents c.writes.output in
    let new = contents c.write.new.self in
    let bytes = c.args.bytes.now in
    let rest = c.writes.rest.now in
    elim c.match-write.branch [
      | in-Ok w ↦ subst (λ (left : List ℕ). GivenTo old new bytes left)
          (sym (ap (λ left. left.now) w.rest-is ∙ w.split_at.ensures.back))
          (given_more old now new bytes rest w.in-Ok.count c.writes.invariant
          w.in-Ok.ensures.bytes)
      | in-Err w ↦ subst (λ (left : List ℕ). GivenTo old new bytes left)
          (sym (ap (λ left. left.now) w.rest-is))
          (given_still old now new bytes rest c.writes.invariant w.in-Err.ensures.bytes)
    ]
