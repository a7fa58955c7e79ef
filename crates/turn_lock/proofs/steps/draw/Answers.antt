use Rattle.std.proofs.Common.{rules, arith, ◌+◌, refl, ap, ◌∙◌}
use Rattle.turn_lock.specs.declared.known.Stage.TheVariants.{SawServing}
use Rattle.turn_lock.proofs.StepsKeep.{looks, sees, draws}
use Rattle.turn_lock.proofs.Watching.{watches_refl}
use Rattle.turn_lock.proofs.steps.draw.Goals as goal

pub loop-init : goal.loop-init
loop-init g c =
    let ready = c.requires.ready.0 in
    (tt, tt, search rules, ready.port, ready.carried_is, watches_refl _ c.requires.ready.1)

pub load-turn-requires : goal.load-turn-requires
load-turn-requires g c =
    let t = g.T.Turned in (
      search rules,
      search rules,
      looks t.origin t.stands t.legal c.args.top.now.key.value _ _ _
          c.loop.invariant.3,
    )

pub load-served-requires : goal.load-served-requires
load-served-requires g c =
    let t = g.T.Turned in
    (search rules, search rules, sees t.origin t.stands t.legal c.args.top.now.key.value _ _ _)

pub compare_exchange-requires : goal.compare_exchange-requires
compare_exchange-requires g c =
    let t = g.T.Turned in
    let turn = c.load-turn.result in
    let saw = c.load-served.ensures.2.view in (
      search rules,
      search rules,
      draws t.origin t.stands t.legal c.args.top.now.key.value _ _ turn (turn + 1) _ refl
          (omega (arith, c.requires.bound, c.if-turn-bound.false))
          (ap (λ v. v.is_port) saw ∙ c.load-turn.ensures.2.moves.port)
          (ap (λ v. v.stage) saw ∙ ap (λ n. SawServing n) c.if-served-turn.true),
    )
