-- The public numbers of the faults of a list of jobs.
use Rattle.std.specs.Prelude.{ℕ}
use Rattle.head_end.specs.declared.fault.JobsFault.{JobsFault}
use Rattle.head_end.specs.declared.fault.JobsFault.TheVariants as fault

-- the public number of a fault of a list of jobs, as `u8::from` returns it
abbrev pub fault_number : JobsFault → ℕ
fault_number (fault.Line line) = 1
fault_number fault.TooMany = 2
fault_number fault.Memory = 3
