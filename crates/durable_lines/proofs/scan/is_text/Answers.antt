use Rattle.std.proofs.Common.{length, ap, sym, ◌∙◌}
use Rattle.std.proofs.lemmas.Bool.{eqb-true, eq-eqb}
use Rattle.durable_lines.proofs.LineLemmas.{is_text-length}
use Rattle.durable_lines.proofs.scan.is_text.Goals as goal

pub returns : goal.returns
returns c = (
  (λ same. is_text-length c.args.bytes.now
      (sym c.whole_len.ensures.len ∙ eqb-true c.whole_len.result (length c.args.bytes.now) same)),
  (λ text. eq-eqb c.whole_len.result (length c.args.bytes.now)
      (c.whole_len.ensures.len ∙ ap length (sym text))),
)
