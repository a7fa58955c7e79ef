use Rattle.std.proofs.Common.{List, ℕ, sym, subst, arith, rules}
use Rattle.durable_lines.proofs.RawLemmas.{WritesTo, then_append, writes_failed, writes_more}
use Rattle.durable_lines.proofs.raw_calls.write_all.Goals as goal

pub returns-in_err-count-clause-front : goal.returns-in_err-count-clause-front
returns-in_err-count-clause-front g c = writes_failed g.R.RawFile.model _ _ _ _ _
    c.writes.invariant.so c.write_retrying.ensures.front

pub returns-in_err-count-clause-call : goal.returns-in_err-count-clause-call
returns-in_err-count-clause-call g c = then_append g.R.RawFile.model _ _ _ _ _ _
    c.writes.rest.now c.writes.invariant.so.calls c.write_retrying.ensures.call
    c.write_retrying.ensures.front (λ failed. search rules)

pub writes-preserved : goal.writes-preserved
writes-preserved g c = record {
  so = subst (λ (left : List ℕ). WritesTo g.R.RawFile.model c.args.raw.now
      c.write_retrying.new.raw c.args.bytes.now left) (sym c.split_at.ensures.back)
      (writes_more g.R.RawFile.model _ _ _ _ _ _ c.in_ok-count.count c.writes.invariant.so
      c.in_ok-count.ensures.written c.write_retrying.ensures.call);
  place = c.in_ok-count.ensures.at_end;
  fewer = omega (
    arith,
    c.writes.invariant.fewer,
    c.in_ok-count.ensures.count.0,
    c.in_ok-count.ensures.count.1,
    c.split_at.ensures.back_len,
  );
}
