use Rattle.std.proofs.Common.{◌≡◌, Result, Ok, Err, refl}
use Rattle.cosem_names.specs.declared.result_code.ResultCode.{ResultCode}
use Rattle.relay_core.specs.declared.parts.Parts.{Parts}
use Rattle.relay_core.specs.declared.parts.WrittenList.{WrittenList}
use Rattle.relay_core.specs.declared.parts.WrittenList.TheVariants as written
use Rattle.relay_core.specs.Moving.{with_list, or_plain}
use Rattle.relay_core.specs.World.{World}
use Rattle.relay_core.specs.Writing.{at_list}

-- storing the decoded list has the effect of the write
pub moved_list : (list : WrittenList) (read : Result Parts ResultCode) (w : World)
    → with_list list (or_plain read) w ≡ (at_list list read w).world
moved_list list (Ok parts) w = refl
moved_list written.Scripts (Err refusal) w = refl
moved_list (written.Entries which) (Err refusal) w = refl
moved_list (written.Groups which) (Err refusal) w = refl
