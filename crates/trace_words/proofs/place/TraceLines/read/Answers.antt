use Rattle.std.proofs.Common.{refl}
use Rattle.std.proofs.lemmas.Result.{err_from_is_err_and}
use Rattle.std.specs.Fn.{FnOnceReturnsAtMut}
use Rattle.trace_words.proofs.PlaceLemmas.{words_read, words_missing, answer_at_line, memory_at_line, same_fault}
use Rattle.trace_words.specs.Rows.{Row}
use Rattle.trace_words.proofs.place.TraceLines.read.Goals as goal

pub returns : goal.returns
returns g c = record {
  reads = λ value_from reader.
      let read = reader c.in_ok-words.words _ c.row.result
      (record { shown = _; shows = refl; left = _; met = c.row.ensures; leaves = refl }) in
      rw (c.at_line.ensures, c.number-number.ensures)
      (words_read value_from c.args.self.now c.in_ok-words.words c.next_words.new.self
      c.row.result c.in_ok-words.ensures.reads read);
  answered =
      rw c.at_line.ensures (
      answer_at_line (λ r. (words after : Row)
      × FnOnceReturnsAtMut g.F.FnOnce c.args.row words r after) c.number-number.result
      c.row.result (
        c.in_ok-words.words,
        _,
        record {
          shown = _;
          shows = refl;
          left = _;
          met = c.row.ensures;
          leaves = refl;
        },
      ));
  memory = rw c.at_line.ensures (
      memory_at_line (λ r. (words after : Row)
      × FnOnceReturnsAtMut g.F.FnOnce c.args.row words r after) c.number-number.result
      c.row.result (
        c.in_ok-words.words,
        _,
        record {
          shown = _;
          shows = refl;
          left = _;
          met = c.row.ensures;
          leaves = refl;
        },
      ));
}

pub returns-in_err-words : goal.returns-in_err-words
returns-in_err-words g c =
    let p = err_from_is_err_and c.from_residual.result c.from_residual.ensures.1 in
    rw (p.1, p.2) (record {
      reads = λ value_from reader. words_missing value_from c.args.self.now
          c.in_err-words.field-0.0 c.in_err-words.ensures.reads;
      answered = tt;
      memory = λ e. absurd (c.in_err-words.ensures.no_memory (same_fault _ _ e));
    })
