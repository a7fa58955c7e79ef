use Rattle.std.proofs.Common.{rules, ◌≡◌, ◌∷◌, ◌++◌, sym, refl, ap, ◌∙◌, subst}
use Rattle.atomic_table.specs.Table.{rest}
use Rattle.turn_lock.specs.Rule.{full_slot}
use Rattle.turn_lock.specs.Seats.{empty_slot, new_entries}
use Rattle.turn_lock.proofs.StepsKeep.{ends}
use Rattle.turn_lock.proofs.steps.end_turn.Goals as goal

pub exchange-requires : goal.exchange-requires
exchange-requires g c = (
  search rules,
  (
    empty_slot,
    subst (λ cs. cs ≡ (0, empty_slot) ∷ rest cs)
        (sym c.requires.taken.carried_is) refl,
  ),
)

pub fetch_add-requires : goal.fetch_add-requires
fetch_add-requires g c =
    let t = g.T.Turned in
    let now = c.exchange.ensures.3 in
    let was = c.requires.taken in
    let seen = c.requires.value in
    let slot = full_slot c.args.value c.args.last in (
      search rules,
      search rules,
      ends t.origin t.stands t.legal c.args.top.now.key.value g.met.T.Turned.is_legal _
          _ c.args.turn
          c.exchange.new.seat.me c.args.value c.args.last (ap (λ m. m.0.is_port) now ∙ was.port)
          (ap (λ m. m.0.stage) now ∙ was.stage_is)
          (ap (λ m. m.1) now ∙ ap (λ cs. (0, slot) ∷ rest cs) was.carried_is)
          (ap (λ m. m.0.known.origin) now ∙ seen.0)
          (subst (λ v. t.stands c.args.value (v.known.seen
          ++ new_entries v.known.number c.args.last)) (sym (ap (λ m. m.0) now)) seen.1),
    )
