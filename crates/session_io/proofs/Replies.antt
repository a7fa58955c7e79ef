-- Events that a meter replied to, one after the other.
use Rattle.std.proofs.Common.{List, [], ◌∷◌, ◌++◌, Result, Ok, refl, sym, ap, ◌∙◌, subst}
use Rattle.std.proofs.Common.{append_assoc}
use Rattle.session_io.specs.Meters.{RepliesTo, RefusesLast}
use Rattle.relay_events.specs.declared.event.Event.{Event}
use Rattle.relay_events.specs.declared.reply.Reply.{Reply}
use Rattle.turn_lock.specs.declared.call_fault.CallFault.{CallFault}

module _ {M : Type 0} (steps : M → Event → Result Reply CallFault → M → Type 0) where
  -- one more event
  pub replied_more : (first next last : M) (events : List Event) (replies : List Reply)
      (event : Event) (reply : Reply)
      → RepliesTo steps first events replies next → steps next event (Ok reply) last
      → RepliesTo steps first (events ++ event ∷ []) (replies ++ reply ∷ []) last
  replied_more first next last [] [] event reply ran step =
      (last, subst (λ (m : M). steps m event (Ok reply) last) ran step, refl)
  replied_more first next last [] (r ∷ replies) event reply ran step = absurd ran
  replied_more first next last (e ∷ events) [] event reply ran step = absurd ran
  replied_more first next last (e ∷ events) (r ∷ replies) event reply (m, one, ran) step =
      (m, one, replied_more m next last events replies event reply ran step)

  -- several more events
  pub replied_on : (first next last : M) (events more : List Event) (replies later : List Reply)
      → RepliesTo steps first events replies next → RepliesTo steps next more later last
      → RepliesTo steps first (events ++ more) (replies ++ later) last
  replied_on first next last [] more [] later ran then_ran =
      subst (λ (m : M). RepliesTo steps m more later last) ran then_ran
  replied_on first next last [] more (r ∷ replies) later ran then_ran = absurd ran
  replied_on first next last (e ∷ events) more [] later ran then_ran = absurd ran
  replied_on first next last (e ∷ events) more (r ∷ replies) later (m, one, ran) then_ran =
      (m, one, replied_on m next last events more replies later ran then_ran)

  pub refused_on : (first next last : M) (events more : List Event) (replies later : List Reply)
      (fault : CallFault)
      → RepliesTo steps first events replies next → RefusesLast steps next more later fault last
      → RefusesLast steps first (events ++ more) (replies ++ later) fault last
  refused_on first next last events more replies later fault ran refused = record {
    taken = events ++ refused.taken;
    event = refused.event;
    all = ap (λ (es : List Event). events ++ es) refused.all
        ∙ sym (append_assoc events refused.taken (refused.event ∷ []));
    before = refused.before;
    replied = replied_on first next refused.before events refused.taken replies later ran
        refused.replied;
    refused = refused.refused;
  }
