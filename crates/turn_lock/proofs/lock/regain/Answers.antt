use Rattle.std.proofs.Common.{rules, ◌≡◌, sym, refl, ap, ◌∙◌, subst, IsSome, None}
use mathlib.Core.Option.{some-injective}
use Rattle.turn_lock.specs.Rule.{full_slot}
use Rattle.turn_lock.proofs.StepsKeep.{regained}
use Rattle.turn_lock.proofs.lock.regain.Goals as goal

pub unwrap-requires : goal.unwrap-requires
unwrap-requires g c = let t = g.T.Turned in let first = c.args.table.shared.key.value in
    let same : full_slot first None ≡ c.take-slot.result = some-injective _ _
    (sym (regained t.origin t.stands t.legal first _ _ c.args.place.id c.args.place.me.0
    c.requires.new c.close_with-closed.ensures.values.2) ∙ c.take-slot.ensures.value) in
    subst (λ s. IsSome s.value) same refl

pub returns : goal.returns
returns g c = let t = g.T.Turned in let first = c.args.table.shared.key.value in
    let same : full_slot first None ≡ c.take-slot.result = some-injective _ _
    (sym (regained t.origin t.stands t.legal first _ _ c.args.place.id c.args.place.me.0
    c.requires.new c.close_with-closed.ensures.values.2) ∙ c.take-slot.ensures.value) in
    let value = ap (λ s. s.value) same in grind rules
