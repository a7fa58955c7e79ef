-- Moments of the meter's clock, in seconds since 2000-01-01 00:00:00 of its time. A moment runs the
-- scripts of the schedules that are due.
use Rattle.std.specs.Prelude.{ℕ, List, [], ◌∷◌, Option, Some, None, ◌==◌, nat_lt, if◌then◌else◌}
use Rattle.std.specs.List.{count_by}
use Rattle.action_schedule.specs.Fitting.{is_due}
use Rattle.action_schedule.specs.Schedule.{Schedule}
use Rattle.relay_events.specs.declared.reply.Reply.TheVariants.{Ran, Stale}
use Rattle.relay_core.specs.declared.scripts.Origin.TheVariants.{Remote}
use Rattle.relay_core.specs.Schedules.{all_schedules}
use Rattle.relay_core.specs.Scripts.{at_script}
use Rattle.relay_core.specs.World.{World, Stepped}
use Rattle.script_steps.specs.Table.{running_steps}

-- the world with its clock at a moment
abbrev pub with_moment : ℕ → World → World
with_moment now w = record w { moment = Some now }

-- the world after one schedule: if it is due, its script runs once, whatever the result (IEC
-- 62056-6-2, class 22, executed_script)
unfoldable pub after_schedule : ℕ → ℕ → Schedule → World → World
after_schedule last now schedule w =
    if is_due schedule last now
    then (at_script Remote (running_steps schedule.selector w.scripts) w).world else w

-- the world after the schedules, in order
abbrev pub after_schedules : ℕ → ℕ → List Schedule → World → World
after_schedules last now [] w = w
after_schedules last now (schedule ∷ schedules) w =
    after_schedules last now schedules (after_schedule last now schedule w)

-- the step that runs the schedules due after `last` and at or before `now`; the reply counts them
abbrev pub clock_step : ℕ → ℕ → World → Stepped
clock_step last now w = record {
  world = after_schedules last now (all_schedules w.schedules) w;
  reply = Ran (count_by (λ schedule. is_due schedule last now) (all_schedules w.schedules));
}

-- the effect of a moment: the first one ever runs nothing, an earlier one is stale, the same one
-- again changes nothing, and a later one runs the schedules that are due
abbrev pub moment_after : Option ℕ → ℕ → World → Stepped
moment_after None now w = record { world = with_moment now w; reply = Ran 0 }
moment_after (Some last) now w =
    if nat_lt now last then record { world = w; reply = Stale last }
    else if now == last then record { world = w; reply = Ran 0 }
    else clock_step last now (with_moment now w)

-- the effect of a moment of the clock
unfoldable pub at_moment : ℕ → World → Stepped
at_moment now w = moment_after w.moment now w
