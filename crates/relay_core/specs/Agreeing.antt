-- Worlds that differ only in their samples and count them alike: no reply distinguishes them.
use Rattle.std.specs.Prelude.{◌≡◌, ◌<◌, List, IfOk, IfSome}
use Rattle.cosem_axdr.specs.declared.value.Data.{Data}
use Rattle.limiter_attributes.specs.declared.attribute.LimiterAttribute.{LimiterAttribute}
use Rattle.limiter_attributes.specs.declared.setting.Setting.{Setting}
use Rattle.limiter_attributes.specs.declared.setting.Setting.TheVariants.{MinOverThresholdDuration, MinUnderThresholdDuration}
use Rattle.limiter_attributes.specs.Reading.{setting_of}
use Rattle.limiter_core.specs.declared.settings.Settings.{Settings}
use Rattle.limiter_core.specs.Counting.{count_of}
use Rattle.limiter_core.specs.Rows.{Row, OverThreshold, UnderThreshold}
use Rattle.relay_core.specs.World.{World, Stepped}
use Rattle.script_steps.specs.Ranges.{AreScriptsInRange}
use Rattle.script_steps.specs.Reading.{table_of}

-- whether rows have equal runs and equal fired flags on both sides
pub record AreCountedAlike (xs ys : List Row) : Type 0 where
  pub over : count_of OverThreshold xs ≡ count_of OverThreshold ys
  pub under : count_of UnderThreshold xs ≡ count_of UnderThreshold ys

-- the world with other rows
abbrev pub with_rows : List Row → List Row → World → World
with_rows rows others w =
    record w {
      import = record w.import { rows = rows };
      export = record w.export { rows = others };
    }

-- whether worlds are equal except for their rows, which are counted alike
pub record Agree (v w : World) : Type 0 where
  pub same : w ≡ with_rows w.import.rows w.export.rows v
  pub import : AreCountedAlike v.import.rows w.import.rows
  pub export : AreCountedAlike v.export.rows w.export.rows

-- whether both durations, in seconds, fit in 32 bits
pub record AreInRange (settings : Settings) : Type 0 where
  pub over : settings.min_over_threshold_duration < 4294967296
  pub under : settings.min_under_threshold_duration < 4294967296

-- whether a written duration, in seconds, fits in 32 bits; every other setting is in range
abbrev pub IsSettingInRange : Setting → Type 0
IsSettingInRange (MinOverThresholdDuration seconds) = seconds < 4294967296
IsSettingInRange (MinUnderThresholdDuration seconds) = seconds < 4294967296
IsSettingInRange _ = Unit {0}

-- whether all durations of a world fit in 32 bits, those in its scripts' steps included
pub record IsWorld (w : World) : Type 0 where
  pub import : AreInRange w.import.settings
  pub export : AreInRange w.export.settings
  pub scripts : AreScriptsInRange w.scripts

-- whether the durations in a value fit in 32 bits, whichever attribute it is written to
pub record IsValue (value : Data) : Type 0 where
  pub scripts : IfOk (table_of value) AreScriptsInRange
  pub setting : (attribute : LimiterAttribute)
      → IfOk (setting_of attribute value) (λ setting. IfSome setting IsSettingInRange)

-- whether two steps have equal replies and end in worlds that agree, the first of them in range
pub record GoAlike (a b : Stepped) : Type 0 where
  pub reply : a.reply ≡ b.reply
  pub world : Agree a.world b.world
  pub range : IsWorld a.world
