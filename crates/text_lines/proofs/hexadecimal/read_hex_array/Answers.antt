use Rattle.std.proofs.Common.{sym, ◌∙◌}
use Rattle.text_lines.proofs.SizedLemmas.{array_read}
use Rattle.text_lines.proofs.hexadecimal.read_hex_array.Goals as goal

pub returns : goal.returns
returns g c =
    array_read g.row.N c.args.word.now c.from_hex.result c.ok.result
    (sym c.has_hexadecimal_form.ensures ∙ c.if-not-has_hexadecimal_form.false)
    c.from_hex.ensures c.ok.ensures.value
