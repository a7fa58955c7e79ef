use Rattle.std.proofs.Common.{◌≡◌, ◌≢◌, ◌-◌, All, take, sym, ap, subst, ◌∙◌, rules, arith, eq-eqb, eqb-true, get_or, get_or-take, length-take-le}
use Rattle.std.proofs.lemmas.List.Elements.{All-more}
use Rattle.std.specs.Io.BufRead.{FillKeeps, DropsConsumable}
use Rattle.std.proofs.BufReadLemmas.{Consumes_shown, zero_unless_positive}
use Rattle.std.proofs.Transfers.{StopsAt-take}
use Rattle.counted_io.proofs.LineLemmas.{one_answer}
use Rattle.counted_io.proofs.lines.add_piece.Goals.{then-end-eq0, else-end-eq0}
use Rattle.counted_io.proofs.lines.add_piece.Goals as goal

pub returns-clause-added : goal.returns-clause-added
returns-clause-added g c =
    let end = c.line_len-end in
    let shown = c.in-Ok.available.now in
    let rested = c.fill_buf.follows.lender-at-none in
    let filled = subst (FillKeeps _ (g.B.Read.remaining rested) (g.B.BufRead.consumable_len rested))
    c.in-Ok.is c.fill_buf.follows.holds-at-none in
    let same : c.if-end-eq0.input ≡ rested = search rules in
    let drops = subst (λ r. DropsConsumable (g.B.Read.remaining r)
    (g.B.Read.remaining c.consume.new.self) (g.B.BufRead.consumable_len r) end.result) same
    c.consume.ensures.bytes in
    let moved = Consumes_shown _ _ _ _ shown end.result end.ensures.bound c.in-Ok.ensures.front
    c.in-Ok.ensures.end filled.0 filled.1 drops in
    let long = length-take-le end.result shown end.ensures.bound in
    record {
      piece = take end.result shown;
      added = c.in_ok-extend_from_slice.ensures.items;
      read = moved.0;
      stops = StopsAt-take shown 10 end.result end.ensures.bound end.ensures.no_earlier_end;
      inside = λ not_done. elim c.if-end-eq0.branch [
        | then-end-eq0 w ↦ absurd (one_answer c.if-end-eq0.is_done (w.is_done-is
            ∙ eq-eqb _ _ w.if-end-eq0.true) not_done)
        | else-end-eq0 w ↦ subst (λ k. All (λ x. x ≢ 10) (take k shown))
            (omega (arith, w.if-end-eq0.false))
            (All-more (λ x. x ≢ 10) shown (end.result - 1) 0
            (omega (arith, w.if-end-eq0.false, end.ensures.bound)) end.ensures.no_earlier_end
            (λ e. one_answer c.if-end-eq0.is_done (w.is_done-is ∙ eq-eqb _ _ e) not_done))
      ];
      more = λ not_done. elim c.if-end-eq0.branch [
        | then-end-eq0 w ↦ absurd (one_answer c.if-end-eq0.is_done (w.is_done-is
            ∙ eq-eqb _ _ w.if-end-eq0.true) not_done)
        | else-end-eq0 w ↦ omega (arith, w.if-end-eq0.false, long)
      ];
      ends = λ done some. elim c.if-end-eq0.branch [
        | then-end-eq0 w ↦ absurd (omega (arith, w.if-end-eq0.true, long, some))
        | else-end-eq0 w ↦ ap (λ n. get_or (take end.result shown) (n - 1) 0) long
            ∙ get_or-take end.result shown (end.result - 1) 0 (omega arith)
            ∙ eqb-true _ _ (sym w.is_done-is ∙ done)
      ];
      at_end = λ done none. moved.1 (zero_unless_positive _ _ end.ensures.non_zero
          (sym long ∙ none));
    }
