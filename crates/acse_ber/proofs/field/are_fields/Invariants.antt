use Rattle.std.proofs.Common.{length}
use Rattle.std.specs.Prelude.{is_ok}
use Rattle.acse_ber.specs.Reading.{fields_of}
use Rattle.acse_ber.proofs.Steps.{Readable}
use Rattle.acse_ber.proofs.field.are_fields.Given as goal

abbrev pub invariant-fields : goal.invariant-fields
invariant-fields l = Readable l.reader (is_ok (fields_of l.body))

abbrev pub decreases-fields : goal.decreases-fields
decreases-fields l = length l.reader
