use Rattle.std.proofs.Common.{inr, sym, ◌∙◌}
use Rattle.std.proofs.lemmas.Result.{err_from_is_err_and}
use Rattle.trace_player.proofs.Outputs.{played_behind, surplus_behind}
use Rattle.trace_player.proofs.output.play_after_opening.Goals as goal

pub returns-in_err-end-clause-err : goal.returns-in_err-end-clause-err
returns-in_err-end-clause-err c =
    let p = err_from_is_err_and c.from_residual-in_err-end.result
    c.from_residual-in_err-end.ensures.1 in
    rw (p.1, p.2) (inr (surplus_behind c.args.version c.args.count c.args.opening.now
    c.args.lines.now c.play_events-played.new.lines c.in_ok-core.core
    c.in_ok-played.field-0.items c.in_err-end.field-0.0
    c.in_ok-played.ensures.ok (sym c.end.ensures ∙ c.in_err-end.was)))

pub returns-clause-ok : goal.returns-clause-ok
returns-clause-ok c =
    played_behind c.args.version c.args.count c.args.opening.now c.args.lines.now
    c.play_events-played.new.lines c.in_ok-core.core c.in_ok-played.field-0.items
    c.in_ok-played.ensures.ok c.in_ok-core.ensures (sym c.end.ensures ∙ c.in_ok-end.was)
