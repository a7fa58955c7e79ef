use Rattle.std.proofs.Common.{◌≤◌, length, ap, arith}
use Rattle.cosem_axdr.specs.Reading.{Place}
use Rattle.cosem_axdr.proofs.Taken.{rest_is_shorter}
use Rattle.cosem_axdr.proofs.reading.read_first.Goals as goal

pub overflow_sub-result : goal.overflow_sub-result
overflow_sub-result c =
    let shorter : length c.read_value.new.reader.bytes ≤ length c.new-reader.result.bytes =
    rest_is_shorter 8 c.new-reader.result c.in_ok-value.value c.read_value.new.reader
    c.in_ok-value.ensures in
    omega (arith, ap (λ (p : Place). length p.bytes) c.new-reader.ensures)
