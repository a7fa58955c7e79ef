-- What a slot owns: a meter in a box, or nothing.
use base.Fml.{Fml, ftrue}
use base.Stored.{Coded}
use denote.RawPtr.{Ptr}
use Rattle.std.specs.Prelude.{Option, Some, None}
use Rattle.std_alloc.specs.Box.Ownership.{box_owns}
use Rattle.std.specs.Coded.{coded_option}
use Rattle.std.specs.Global.{Global}
use Rattle.std_heap.specs.contracts.GlobalAllocator.TheImpl.{ghosts}
use Rattle.embedded_meter.specs.contracts.supply_meter.SupplyMeter.{the_row}

-- the memory that a slot owns at an address: the box of its meter, which the allocator can free
-- again; nothing if the slot is empty
abbrev pub ownership_of : Global → Ptr → Option the_row.Denot → Fml
ownership_of alloc at None = ftrue
ownership_of alloc at (Some meter) = box_owns (ghosts.dealloc_token alloc) the_row at meter

-- how the meter of a slot, or that there is none, is stored in memory
abbrev pub ownership_coded : Coded (Option the_row.Denot)
ownership_coded = coded_option the_row.coded
