-- What follows from the rounds of a fleet's loop.
--     failing_calls     the calls of the round that ended the loop
--     run_calls         all calls of a run
--     IsLawful          a fleet is lawful at each moment of a run
--     RunsLawfully      so are all runs of the loop
--     LosesNothing      between two rounds, no open connection has lost bytes
use Rattle.std.proofs.Common.{inl, inr}
use Rattle.std.specs.Prelude.{◌≡◌, ◌++◌, ℕ, List, [], Option}
use Rattle.std.specs.List.{flat_map}
use Rattle.fleet_meters.specs.Fleets.{FleetState, IsNewFleet}
use Rattle.fleet_meters.specs.declared.terms.FleetTerms.{FleetTerms}
use Rattle.fleet_meters.specs.Calls.{FleetCall, Calls}
use Rattle.fleet_meters.specs.Moments.{Holds, AreWhole}
use Rattle.meter_fleet.specs.Networks.{NetworkEvent}
use Rattle.meter_fleet.specs.Rounds.{Round, LoopState, FailsBy, DoesRounds, ServesUntil, ServesFleet}
use Rattle.meter_fleet.specs.Rounds.{round_calls, start_of, frame_bytes}
use Rattle.meter_fleet.specs.declared.serving.FleetFault.{FleetFault}
use Rattle.meter_fleet.specs.declared.serving.FleetFault.TheVariants.{Network, Memory}

-- the calls of the fleet in the round that ended with a fault
abbrev pub failing_calls : (old : LoopState) (fault : FleetFault)
    (log : Option (List NetworkEvent)) (fleet : FleetState) → FailsBy old fault log fleet
    → List FleetCall
failing_calls old (Network why) log fleet fails = []
failing_calls old Memory log fleet (inl unchanged) = []
failing_calls old Memory log fleet (inr works) = round_calls works.0

-- all calls of a run, in order
abbrev pub run_calls : (log : Option (List NetworkEvent)) (first : FleetState)
    (fault : FleetFault) (log' : Option (List NetworkEvent)) (final : FleetState)
    → ServesUntil log first fault log' final → List FleetCall
run_calls log first fault log' final run = flat_map round_calls run.rounds
    ++ failing_calls run.last fault log' final run.fails

-- Whether these calls lead from one fleet to the other, and at each moment, after the first of
-- them, the fleet is as they left it: each open connection has its frames, at most eight are open
-- to one meter, and each meter has the history of its own calls.
pub record IsLawful (terms : FleetTerms) (first : FleetState) (calls : List FleetCall)
    (final : FleetState) : Type 0 where
  pub leads : Calls frame_bytes first calls final
  pub moments : (done left : List FleetCall) → done ++ left ≡ calls → (now : FleetState)
      × Calls frame_bytes first done now × Calls frame_bytes now left final × Holds terms done now

-- the fleet is lawful at each moment of each run of the loop
abbrev pub RunsLawfully : Type 0
RunsLawfully = (terms : FleetTerms) (count : ℕ) (fault : FleetFault)
    (log log' : Option (List NetworkEvent)) → (run : ServesFleet terms count log fault log')
    → IsLawful terms run.first (run_calls log run.first fault log' run.final run.serves) run.final

-- after any rounds of the loop, memory has run out in no turn of a connection that is open: where
-- it did, the connection was closed in the same round
abbrev pub LosesNothing : Type 0
LosesNothing = (terms : FleetTerms) (count : ℕ) (log : Option (List NetworkEvent))
    (first : FleetState) (rounds : List Round) (last : LoopState) → IsNewFleet terms count first
    → DoesRounds (start_of log first) rounds last
    → AreWhole terms (flat_map round_calls rounds) last.fleet
