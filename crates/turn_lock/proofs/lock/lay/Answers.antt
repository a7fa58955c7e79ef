use Rattle.std.proofs.Common.{◌≡◌, [], ◌∷◌, ◌++◌, None, sym, ap, ◌∙◌, subst, refl}
use Rattle.atomic_table.specs.Table.{opening}
use Rattle.turn_lock.specs.Rule.{full_slot, first_view, IsLockState}
use Rattle.turn_lock.proofs.StepsKeep.{made}
use Rattle.turn_lock.proofs.lock.lay.Goals as goal

pub new-requires-2 : goal.new-requires-2
new-requires-2 g c =
    let t = g.T.Turned in
    let key = c.of-key.result.value in
    let same : key ≡ c.args.value = c.of-key.ensures in
    let items : c.push.new.self.items ≡ full_slot key None ∷ [] = c.in_default.ensures.items
    ∙ (ap (λ l. l ++ full_slot c.in-Ok.lodged None ∷ []) c.new-slots.ensures.items
    ∙ ap (λ x. full_slot x None ∷ []) (c.in-Ok.ensures.ok ∙ sym same)) in
    subst (λ xs. IsLockState t.origin t.stands t.legal key
    (opening (0 ∷ 0 ∷ []) xs (first_view (t.origin key)))) (sym items)
    (made t.origin t.stands t.legal key g.met.T.Turned.is_legal key
    (subst (λ x. t.stands x []) (sym same) c.requires) refl)
