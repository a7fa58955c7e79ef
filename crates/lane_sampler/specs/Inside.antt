-- The fields of a block.
use Rattle.std.specs.Prelude.{◌≤◌, length, IfSome}
use Rattle.std.specs.Option.{option_map}
use Rattle.lane_sampler.specs.declared.samples.Block.TheInside.{Inside}
use Rattle.lane_sampler.specs.Samples.{Samples, AreEven, max_values}
use Rattle.lane_sampler.specs.Scans.{AreRightScans}

-- the samples of a block
abbrev pub samples_of : Inside → Samples
samples_of block = record {
  import = block.import.items;
  export = option_map (λ v. v.items) block.export;
}

-- whether a block has at most `max_values` values or pairs, and its scans are right for them
pub record IsBlock (block : Inside) : Type 0 where
  pub few : length block.import.items ≤ max_values
  pub even : AreEven (samples_of block)
  pub right : IfSome block.scans.value (AreRightScans (samples_of block))
