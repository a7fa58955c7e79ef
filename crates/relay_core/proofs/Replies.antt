-- The reply to an event is of the event's kind.
use Rattle.std.proofs.Common.{ℕ, Bool, true, false, nat_lt, ◌==◌, if◌then◌else◌, List, Option, Some, None}
use Rattle.cosem_names.specs.declared.service.GetResult.{GetResult}
use Rattle.cosem_names.specs.declared.service.GetResult.TheVariants as result
use Rattle.relay_events.specs.declared.event.Event.{Event}
use Rattle.relay_events.specs.declared.event.Event.TheVariants.{Get, GetList, Set, Execute, Button, Samples, Moment}
use Rattle.relay_core.specs.declared.sampling.FiringCounts.{FiringCounts}
use Rattle.relay_core.specs.Clock.{moment_after, at_moment}
use Rattle.relay_core.specs.Machine.{reply_of, at_event}
use Rattle.relay_events.specs.Kinds.{IsValueOrCode, IsOfSamples, IsOfClock, Fits}
use Rattle.relay_core.specs.Reading.{get_result}
use Rattle.relay_core.specs.Sampling.{measurements, no_firings, after_samples, reply_of_firings, at_samples}
use Rattle.relay_core.specs.World.{World, Stepped}

value_fits : (r : GetResult) → IsValueOrCode (reply_of r)
value_fits (result.Value value) = tt
value_fits (result.Code code) = tt

sampled_fits : (others : Option (List ℕ)) (firings : FiringCounts)
    → IsOfSamples (reply_of_firings others firings)
sampled_fits None firings = tt
sampled_fits (Some others) firings = tt

-- what holds for each of three replies holds for the one that two tests choose
chosen_fits : (a b : Bool) (x y z : Stepped) → IsOfClock x.reply → IsOfClock y.reply
    → IsOfClock z.reply
    → IsOfClock (if a then x else if b then y else z).reply
chosen_fits true b x y z first second third = first
chosen_fits false true x y z first second third = second
chosen_fits false false x y z first second third = third

moment_fits : (last : Option ℕ) (now : ℕ) (w : World) → IsOfClock (moment_after last now w).reply
moment_fits None now w = tt
moment_fits (Some last) now w = chosen_fits (nat_lt now last) (now == last) _ _ _ tt tt tt

pub reply_fits : (event : Event) (w : World) → Fits event (at_event event w).reply
unfolding at_event at_samples at_moment
reply_fits (Get level attr selected) w = value_fits (get_result level attr selected w)
reply_fits (GetList level items) w = tt
reply_fits (Set level attr selected value) w = tt
reply_fits (Execute level method parameter) w = tt
reply_fits Button w = tt
reply_fits (Samples block) w =
    sampled_fits block.export (after_samples (measurements block)
    (record { world = w; firings = no_firings })).firings
reply_fits (Moment now) w = moment_fits w.moment now w
