use Rattle.std.proofs.Common.{rules, ◌+◌, refl, ap, ◌∙◌}
use Rattle.turn_lock.proofs.StepsKeep.{sees, closes}
use Rattle.turn_lock.proofs.steps.draw_last.Goals as goal

pub load-served-requires : goal.load-served-requires
load-served-requires g c =
    let t = g.T.Turned in
    (search rules, search rules, sees t.origin t.stands t.legal c.args.top.now.key.value _ _ _)

pub compare_exchange-drawn-requires : goal.compare_exchange-drawn-requires
compare_exchange-drawn-requires g c =
    let t = g.T.Turned in
    let now = c.load-served.ensures.2.view in
    let n = c.load-served.result in (
      search rules,
      search rules,
      closes t.origin t.stands t.legal c.args.top.now.key.value _ _ n (n
          + 1) _ refl (ap (λ v. v.is_port) now ∙ c.requires.ready.port) (ap (λ v. v.stage) now),
    )
