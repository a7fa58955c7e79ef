use Rattle.std.proofs.Common.{◌≡◌, true, false, refl, sym, ◌∙◌, arith}
use Rattle.session_core.proofs.Shorts.{negotiated_set, reads_set}
use Rattle.session_core.proofs.short_request.read_set.Goals as goal

pub returns-clause-read : goal.returns-clause-read
returns-clause-read c =
    reads_set c.args.conformance.0 c.args.payload.now c.read_u16.result c.in-len15.len_at_least
    c.in-len15.len_below c.if-tag.false c.if-form-ne-NORMAL.false c.if-selection-ne-ABSENT.false
    c.if-kind-ne-ENUM.false (sym (c.if-not-contains.ensures tt)) c.read_u16.ensures

pub returns-then-not-contains-clause-is_short : goal.returns-then-not-contains-clause-is_short
returns-then-not-contains-clause-is_short c = (
  (λ some. absurd (some refl)),
  (λ short none.
      let wrong : false ≡ true = c.if-not-contains.ensures tt
      ∙ sym (negotiated_set c.args.conformance.0) ∙ short.1 in
      absurd cc),
)

pub returns-clause-is_short : goal.returns-clause-is_short
returns-clause-is_short c = (
  (λ some. (
    (
      omega (arith, c.in-len15.len_at_least, c.in-len15.len_below),
      c.if-tag.false,
      c.if-form-ne-NORMAL.false,
      c.if-selection-ne-ABSENT.false,
      c.if-kind-ne-ENUM.false,
    ),
    negotiated_set c.args.conformance.0 ∙ sym (c.if-not-contains.ensures tt),
  )),
  (λ short none. absurd cc),
)
