-- The fields still to read decide the result, together with the field found so far.
use Rattle.std.proofs.Common.{None, length, option_map}
use Rattle.acse_ber.specs.Reading.{fields_of}
use Rattle.acse_ber.proofs.Steps.{Remaining, still}
use Rattle.acse_ber.proofs.field.find_field.Given as goal

abbrev pub invariant-fields : goal.invariant-fields
invariant-fields l = Remaining l.tag (option_map (λ contents. contents.now) l.found) l.reader
    (still l.tag None (fields_of l.body))

abbrev pub decreases-fields : goal.decreases-fields
decreases-fields l = length l.reader
