use Rattle.std.proofs.Common.{◌≡◌, Option, Some, None, true, refl, ◌∙◌, ap}
use Rattle.meter.specs.Held.{is_held}
use Rattle.meter.specs.declared.handle.MeterHandle.{MeterHandle}
use Rattle.meter.proofs.handle.MeterHandle.take.Goals as goal

held_some : {X : Type 0} (held : Option X) → is_held held ≡ true → (x : X) × (held ≡ Some x)
held_some None is = absurd cc
held_some (Some x) is = (x, refl)

pub into_parts-requires : goal.into_parts-requires
into_parts-requires c = held_some _ (c.replace-slot.result.agrees
    ∙ ap (λ (m : MeterHandle). m.is_open) c.replace-slot.ensures.value ∙ c.if-not-self.false)
