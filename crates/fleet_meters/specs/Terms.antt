-- What the meters of a fleet are made of.
--     terms_with   the terms of a meter that has this fault, or none
--     terms_of     the terms of the meter with this number
--     terms_at     the terms of the meter at this place
use Rattle.std.specs.Prelude.{ℕ, ◌+◌, Option, Some, None}
use Rattle.fleet_faults.specs.Draws.{fault_of}
use Rattle.fleet_faults.specs.declared.fault.InjectedFault.{InjectedFault}
use Rattle.fleet_faults.specs.declared.fault.InjectedFault.TheVariants.{Silent, Slow, Vanishes, Closes}
use Rattle.fleet_faults.specs.declared.fault.InjectedFault.TheVariants.{WrongPassword, Refuses}
use Rattle.fleet_meters.specs.declared.terms.FleetTerms.{FleetTerms}
use Rattle.fleet_meters.specs.declared.terms.MeterTerms.{MeterTerms}

-- the terms of a meter that has this fault, or none; all other faults are those of connections
abbrev pub terms_with : FleetTerms → Option InjectedFault → MeterTerms
terms_with terms None = terms.common
terms_with terms (Some Silent) = terms.common
terms_with terms (Some Slow) = terms.common
terms_with terms (Some Vanishes) = terms.common
terms_with terms (Some Closes) = terms.common
terms_with terms (Some WrongPassword) = terms.wrong_password
terms_with terms (Some Refuses) = terms.refuses

-- the terms of the meter with this number, counted from 1: those of its fault
unfoldable pub terms_of : FleetTerms → ℕ → MeterTerms
terms_of terms number = terms_with terms (fault_of terms.plan.shares terms.plan.seed number)

-- the terms of the meter at this place, counted from 0
abbrev pub terms_at : FleetTerms → ℕ → MeterTerms
terms_at terms place = terms_of terms (place + 1)
