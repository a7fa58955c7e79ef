use Rattle.std.proofs.Common.{rules, ◌≡◌, ◌∷◌, sym, refl, subst}
use Rattle.atomic_table.specs.Table.{rest}
use Rattle.turn_lock.specs.Rule.{full_slot}
use Rattle.turn_lock.proofs.steps.take_out.Goals as goal

pub exchange-requires : goal.exchange-requires
exchange-requires g c =
    let h = c.requires.holds in (
      search rules,
      (
        full_slot h.0 h.1,
        subst (λ cs. cs ≡ (0, full_slot h.0 h.1) ∷ rest cs)
            (sym h.2) refl,
      ),
    )
