use Rattle.std.proofs.Common.{◌+◌, List, ℕ, refl, subst, sym}
use Rattle.std.proofs.lemmas.Result.{err_from_is_err_and}
use Rattle.trace_player.specs.Traces.{events_at}
use Rattle.trace_player.proofs.EventsPlayed.{Underway, none_played, event_played, events_played}
use Rattle.trace_player.proofs.EventsRead.{event_refused}
use Rattle.trace_player.proofs.playing.play_events.Goals as goal

pub events-init : goal.events-init
events-init c =
    subst (λ (out : List ℕ). Underway c.args.version c.args.count 0 c.args.lines.now
    c.args.lines.now c.args.core.now c.args.core.now out) (sym c.new-out.ensures.items)
    (none_played c.args.version c.args.count c.args.lines.now c.args.core.now)

pub returns-in_err-play_next-clause-err : goal.returns-in_err-play_next-clause-err
returns-in_err-play_next-clause-err c =
    let p = err_from_is_err_and c.from_residual.result c.from_residual.ensures.1 in
    rw (p.1, p.2) (event_refused c.args.version c.args.count c.events.i c.events.invariant.events
    c.events.lines c.in_err-play_next.field-0.0
    (events_at c.args.version c.args.count c.args.lines.now) c.events-test.true
    c.in_err-play_next.ensures.err c.events.invariant.read)

pub events-preserved : goal.events-preserved
events-preserved c =
    event_played c.args.version c.args.count c.events.i (c.events.i
    + 1) c.args.lines.now c.events.lines c.play_next.new.lines c.args.core.now c.events.core
    c.play_next.new.core c.events.out.items c.play_next.new.out.items
    c.events-test.true refl c.in_ok-play_next.ensures.ok c.events.invariant

pub returns-clause-ok : goal.returns-clause-ok
returns-clause-ok c =
    events_played c.args.version c.args.count c.events.i c.args.lines.now c.events.lines
    c.args.core.now c.events.core c.events.out.items c.events-test.false c.events.invariant
