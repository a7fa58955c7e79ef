-- The public numbers of the faults of blocks of samples.
use Rattle.std.specs.Prelude.{ℕ}
use Rattle.lane_sampler.specs.declared.samples.BlockMade.{BlockMade}
use Rattle.lane_sampler.specs.declared.samples.BlockMade.TheVariants as fault

-- the public number of a fault of creating a block, as `u8::from` returns it
abbrev pub fault_number : BlockMade → ℕ
fault_number fault.TooLong = 1
fault_number fault.Memory = 2
fault_number fault.Uneven = 3
