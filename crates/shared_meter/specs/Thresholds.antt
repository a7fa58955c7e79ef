-- The read of the thresholds that blocks are scanned with.
use Rattle.std.specs.Prelude.{ℕ, false, List, [], ◌∷◌}
use Rattle.cosem_names.specs.Table.{limiter, obis}
use Rattle.cosem_names.specs.declared.level.Level.TheVariants.{Management}
use Rattle.cosem_names.specs.declared.name.Obis.{Obis}
use Rattle.cosem_names.specs.declared.service.AttributeSelection.{AttributeSelection}
use Rattle.relay_events.specs.declared.event.Event.{Event}
use Rattle.relay_events.specs.declared.event.Event.TheVariants.{GetList}

-- the number of threshold_active (IEC 62056-6-2, class 71)
abbrev pub threshold_active : ℕ
threshold_active = 3

-- the reference to threshold_active of the limiter with this logical name
abbrev pub active_threshold : Obis → AttributeSelection
active_threshold name =
    record {
      attr = record { class = limiter; name = name; number = threshold_active };
      selected = false;
    }

-- a management client's read of both active thresholds in one step: imported power, then exported
-- power
abbrev pub threshold_read : Event
threshold_read = GetList Management
    (active_threshold (obis 0 0 17 0 0 255) ∷ active_threshold (obis 0 1 17 0 0 255) ∷ [])
