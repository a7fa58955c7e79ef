-- Sockets of a fleet that have just begun to listen.
--     IsBound   the limits of time in milliseconds, and the faults
use Rattle.std.specs.Prelude.{◌≡◌, ◌*◌}
use Rattle.fleet_faults.specs.declared.plan.FaultPlan.{FaultPlan}
use Rattle.fleet_sockets.specs.declared.sockets.FleetSockets.{FleetSockets}
use Rattle.fleet_sockets.specs.declared.sockets.TimeLimits.{TimeLimits}

-- whether sockets have these limits of time, which are in seconds, and this plan of faults
pub record IsBound {R F : Type 0} (limits : TimeLimits) (plan : FaultPlan)
    (sockets : FleetSockets R F) : Type 0 where
  pub inactivity : sockets.limit ≡ limits.inactivity * 1_000
  pub session : sockets.longest ≡ limits.session * 1_000
  pub faults : sockets.plan ≡ plan
