-- The events of blocks: each block, and the reads of the thresholds that the blocks are scanned
-- with.
use Rattle.std.specs.Prelude.{◌≡◌, ◌⊎◌, ℕ, ◌+◌, ◌%◌, List, [], ◌∷◌, ◌++◌, map, Option, Some, None, IfSome}
use Rattle.lane_sampler.specs.Samples.{Samples}
use Rattle.relay_events.specs.declared.event.Event.{Event}
use Rattle.relay_events.specs.declared.event.Event.TheVariants as event
use Rattle.shared_meter.specs.Handed.{without_reads}
use Rattle.shared_meter.specs.Thresholds.{threshold_read}

-- whether these are the events before the block with this index (from 0): at most one read of the
-- thresholds, and only for the indices 0, 64, 128 and so on
abbrev pub IsAhead : ℕ → List Event → Type 0
IsAhead place ahead = (ahead ≡ []) ⊎ ((place % 64 ≡ 0) × (ahead ≡ threshold_read ∷ []))

-- whether these are the events of blocks, the first of which has this index
abbrev pub AreOfBlocks : ℕ → List Samples → List Event → Type 0
AreOfBlocks place [] events = events ≡ []
AreOfBlocks place (block ∷ blocks) events =
    (ahead : List Event) × (rest : List Event) × IsAhead place ahead
    × (events ≡ ahead ++ event.Samples block ∷ rest) × AreOfBlocks (place + 1) blocks rest

-- Whether the events, apart from reads, are all blocks of the source's list, in order. The
-- thresholds are read at most before the first block and after every 64 further ones.
abbrev pub AllBlocks : Option (List Samples) → List Event → Type 0
AllBlocks told events =
    IfSome told (λ blocks. (without_reads events ≡ map event.Samples blocks)
    × AreOfBlocks 0 blocks events)

-- whether these are the events of the blocks that are left, the first of which has this index; a
-- block that waits for the reply to its read comes first
abbrev pub AreLeft : ℕ → (waiting : Option Samples) → List Samples → List Event → Type 0
AreLeft place None blocks events = AreOfBlocks place blocks events
AreLeft place (Some block) blocks events =
    (rest : List Event) × (events ≡ event.Samples block ∷ rest)
    × AreOfBlocks (place + 1) blocks rest

-- whether `AreLeft` holds, if the source declares its blocks
abbrev pub CanFollow : Option (List Samples) → ℕ → (waiting : Option Samples) → List Event → Type 0
CanFollow told place waiting events = IfSome told (λ blocks. AreLeft place waiting blocks events)
