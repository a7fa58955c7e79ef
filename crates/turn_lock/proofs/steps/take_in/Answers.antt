use Rattle.std.proofs.Common.{rules, ap, ◌∙◌, subst}
use Rattle.turn_lock.specs.Seats.{view_of}
use Rattle.turn_lock.specs.Plays.{KnowsBoth}
use Rattle.turn_lock.proofs.StepsKeep.{joins, merges}
use Rattle.turn_lock.proofs.steps.take_in.Goals as goal

pub join_seat-requires : goal.join_seat-requires
join_seat-requires g c =
    let t = g.T.Turned in (
      search rules,
      search rules,
      search rules,
      search rules,
      joins t.origin t.stands t.legal c.args.top.now.key.value _ _ _ _ c.requires.ready.0.port,
    )

pub load-requires : goal.load-requires
load-requires g c =
    let t = g.T.Turned in
    let now = c.join_seat.ensures.2 in
    let k = c.args.other.me.0 in (
      search rules,
      search rules,
      merges t.origin t.stands t.legal c.args.top.now.key.value _ _ _
          k.is_port k.known (ap (λ m. m.0.is_port) now ∙ c.requires.ready.0.port)
          (ap (λ m. m.0.stage) now),
    )

pub returns-clause-merged : goal.returns-clause-merged
returns-clause-merged g c = let now = c.join_seat.ensures.2 in let other = view_of c.args.other in
    subst (λ m. KnowsBoth g.T.Turned.legal m.0.known other (view_of c.load.new.seat)) now
    (c.load.ensures.2.knows_both other (ap (λ m. m.0.stage) now))
