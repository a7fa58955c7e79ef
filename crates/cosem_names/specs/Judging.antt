-- A closure that reads Data, compared with a definition.
use Rattle.std.specs.Prelude.{◌≡◌, Result}
use Rattle.std.specs.Fn.{Shared, FnReturnsAt}
use denote.Ref.{Bor}
use Rattle.cosem_axdr.specs.declared.value.Data.{Data}
use Rattle.cosem_names.specs.declared.write_fault.WriteFault.{WriteFault}

-- whether each result that this closure can return for an item is that of the definition `of_item`
abbrev pub IsReader : {F X : Type 0} → Shared F (Bor Data × Unit {0}) (Result X WriteFault) → F
    → (Data → Result X WriteFault) → Type 0
IsReader {F} {X} calls read of_item = (item : Data) (given : Result X WriteFault)
    → FnReturnsAt calls read item given → given ≡ of_item item
