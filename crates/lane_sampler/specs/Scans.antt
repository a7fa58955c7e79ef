-- Scans that are right for the values of a block.
use Rattle.std.specs.Prelude.{ℕ, List, Option, Some, None}
use Rattle.lane_sampler.specs.declared.samples.Scan.{Scan}
use Rattle.lane_sampler.specs.declared.samples.Scans.{Scans}
use Rattle.lane_sampler.specs.Masks.{AreMasks}
use Rattle.lane_sampler.specs.Samples.{Samples}

-- whether the masks are those of the values at the threshold that the scan names
abbrev pub IsRightScan : List ℕ → Scan → Type 0
IsRightScan values scan = AreMasks values scan.threshold scan.masks

-- whether there is an export scan exactly if there are export values, and it is right for them
abbrev pub IsRightExport : Option (List ℕ) → Option Scan → Type 0
IsRightExport None None = Unit {0}
IsRightExport None (Some scan) = ⊥
IsRightExport (Some values) None = ⊥
IsRightExport (Some values) (Some scan) = IsRightScan values scan

-- whether the scan of the import values and that of the export values are right for the samples
pub record AreRightScans (samples : Samples) (scans : Scans) : Type 0 where
  pub import : IsRightScan samples.import scans.import
  pub export : IsRightExport samples.export scans.export
