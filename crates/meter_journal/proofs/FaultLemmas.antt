-- The faults of a save.
use Rattle.std.proofs.Common.{◌≡◌, ℕ, ◌≤◌, Err, refl, sym, subst, arith}
use Rattle.std.specs.Prelude.{IsErrOf}
use Rattle.durable_lines.specs.declared.fault.FileFault.TheVariants.{Failed, TooLong, Memory}
use Rattle.meter_journal.specs.Faults.{FailsFor}
use Rattle.meter_journal.specs.declared.fault.JournalFault.{JournalFault}
use Rattle.meter_journal.specs.declared.fault.JournalFault.TheVariants.{Lines, Turns, File, Relay}

-- a fault for a reason is one for a weaker reason
pub fails_as : (drawn failed spent lost : Type 0) (fault : JournalFault) → (drawn → spent)
    → (failed → lost) → FailsFor drawn failed fault → FailsFor spent lost fault
fails_as drawn failed spent lost Lines turns file fails = tt
fails_as drawn failed spent lost Turns turns file fails = turns fails
fails_as drawn failed spent lost (File Failed) turns file fails = file fails
fails_as drawn failed spent lost (File TooLong) turns file fails = tt
fails_as drawn failed spent lost (File Memory) turns file fails = tt
fails_as drawn failed spent lost Relay turns file fails = tt

-- what holds of the port and the file of a save that failed
pub save_fails : (T failed : Type 0) (fault : JournalFault) (after bound drawn : ℕ)
    → after ≡ bound → (IsErrOf {T = T} (Err fault) Turns → bound ≤ drawn)
    → (IsErrOf {T = T} (Err fault) (File Failed) → failed)
    → FailsFor (after ≤ drawn) failed fault
save_fails T failed Lines after bound drawn same turns file = tt
save_fails T failed Turns after bound drawn same turns file =
    let read : bound ≤ drawn = turns refl in omega (arith, same, read)
save_fails T failed (File Failed) after bound drawn same turns file = file refl
save_fails T failed (File TooLong) after bound drawn same turns file = tt
save_fails T failed (File Memory) after bound drawn same turns file = tt
save_fails T failed Relay after bound drawn same turns file = tt

-- nothing is claimed of a relay that failed
pub relay_fails : (drawn failed : Type 0) (fault : JournalFault) → fault ≡ Relay
    → FailsFor drawn failed fault
relay_fails drawn failed fault is = subst (FailsFor drawn failed) (sym is) tt
