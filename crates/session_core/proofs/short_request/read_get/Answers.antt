use Rattle.std.proofs.Common.{◌≡◌, true, false, refl, sym, ◌∙◌, arith}
use Rattle.session_core.proofs.Shorts.{negotiated_get, reads_get}
use Rattle.session_core.proofs.short_request.read_get.Goals as goal

pub returns-clause-read : goal.returns-clause-read
returns-clause-read c =
    reads_get c.args.conformance.0 c.args.payload.now c.read_u16.result c.in-len13.len_at_least
    c.in-len13.len_below c.if-tag.false c.if-form-ne-NORMAL.false c.if-selection-ne-ABSENT.false
    (sym (c.if-not-contains.ensures tt)) c.read_u16.ensures

pub returns-then-not-contains-clause-is_short : goal.returns-then-not-contains-clause-is_short
returns-then-not-contains-clause-is_short c = (
  (λ some. absurd (some refl)),
  (λ short none.
      let wrong : false ≡ true = c.if-not-contains.ensures tt
      ∙ sym (negotiated_get c.args.conformance.0) ∙ short.1 in
      absurd cc),
)

pub returns-clause-is_short : goal.returns-clause-is_short
returns-clause-is_short c = (
  (λ some. (
    (
      omega (arith, c.in-len13.len_at_least, c.in-len13.len_below),
      c.if-tag.false,
      c.if-form-ne-NORMAL.false,
      c.if-selection-ne-ABSENT.false,
    ),
    negotiated_get c.args.conformance.0 ∙ sym (c.if-not-contains.ensures tt),
  )),
  (λ short none. absurd cc),
)
