-- The control states of new meters, by their faults.
--     first_with     the control state of a new meter that has this fault, or none
--     AreFirst       whether these are the control states of new meters
use Rattle.std.specs.Prelude.{Option, Some, None}
use Rattle.disconnect_control.specs.declared.state.ControlState.{ControlState}
use Rattle.fleet_faults.specs.declared.fault.InjectedFault.{InjectedFault}
use Rattle.fleet_faults.specs.declared.fault.InjectedFault.TheVariants.{Silent, Slow, Vanishes, Closes}
use Rattle.fleet_faults.specs.declared.fault.InjectedFault.TheVariants.{WrongPassword, Refuses}
use Rattle.fleet_meters.specs.Places.{HasState}
use Rattle.fleet_meters.specs.declared.states.FirstStates.{FirstStates}
use Rattle.fleet_meters.specs.declared.terms.FleetTerms.{FleetTerms}

-- the control state of a new meter that has this fault, or none
abbrev pub first_with : FirstStates → Option InjectedFault → ControlState
first_with states None = states.common
first_with states (Some Silent) = states.common
first_with states (Some Slow) = states.common
first_with states (Some Vanishes) = states.common
first_with states (Some Closes) = states.common
first_with states (Some WrongPassword) = states.wrong_password
first_with states (Some Refuses) = states.refuses

-- whether new meters of a fleet with these terms are in these control states
pub record AreFirst (terms : FleetTerms) (states : FirstStates) : Type 0 where
  pub common : HasState terms.common None states.common
  pub wrong_password : HasState terms.wrong_password None states.wrong_password
  pub refuses : HasState terms.refuses None states.refuses
