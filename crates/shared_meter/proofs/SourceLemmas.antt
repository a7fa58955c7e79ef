-- The events that moments and presses offer.
use Rattle.std.proofs.Common.{◌≡◌, inl, ℕ, zero, suc, true, false, List, [], ◌∷◌, Option, Some, None, map, replicate, ap, refl, subst}
use Rattle.shared_meter.specs.Calls.{IsSure}
use Rattle.relay_core.specs.Machine.{is_sure}
use Rattle.relay_events.specs.declared.event.Event.{Event}
use Rattle.relay_events.specs.declared.event.Event.TheVariants.{Button, Moment}
use Rattle.shared_meter.specs.Sources.{AllMoments, AllPresses, Gives, Offers, Presses}

moment_sure : (now : ℕ) → IsSure (Moment now)
unfolding is_sure
moment_sure now = refl

button_sure : IsSure Button
unfolding is_sure
button_sure = refl

pub moment_offered : (told next : Option (List ℕ)) (now : ℕ) → Gives told (Some now) next
    → Offers (AllMoments told) (Some (Moment now)) (AllMoments next)
moment_offered None next now gives = (λ events can. tt, inl (moment_sure now))
moment_offered (Some []) next now gives = let none : Some now ≡ None = gives.0 in cc
moment_offered (Some (x ∷ xs)) next now gives = (
  λ events can.
      let given : Some now ≡ Some x = gives.0 in
      let later : events ≡ map Moment xs = subst (λ (n : Option (List ℕ)). AllMoments n events)
      gives.1 can in
      cc,
  inl (moment_sure now),
)

pub no_moment : (told next : Option (List ℕ)) → Gives told None next → AllMoments told []
no_moment None next gives = tt
no_moment (Some []) next gives = refl
no_moment (Some (x ∷ xs)) next gives = let some : None ≡ Some x = gives.0 in cc

pub press_offered : (told next : Option ℕ) → Presses told true next
    → Offers (AllPresses told) (Some Button) (AllPresses next)
press_offered None next presses = (λ events can. tt, inl button_sure)
press_offered (Some zero) next presses = let none : true ≡ false = presses.0 in cc
press_offered (Some (suc count)) next presses = (
  λ events can.
      let later : events ≡ replicate count Button = subst
      (λ (n : Option ℕ). AllPresses n events) presses.1 can in
      ap (λ (l : List Event). Button ∷ l) later,
  inl button_sure,
)

pub no_press : (told next : Option ℕ) → Presses told false next → AllPresses told []
no_press None next presses = tt
no_press (Some zero) next presses = refl
no_press (Some (suc count)) next presses = let some : false ≡ true = presses.0 in cc
