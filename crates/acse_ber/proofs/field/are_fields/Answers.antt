use Rattle.std.proofs.Common.{◌≡◌, false, true, refl, sym}
use Rattle.std.specs.Prelude.{is_ok}
use Rattle.acse_ber.specs.Reading.{fields_of}
use Rattle.acse_ber.proofs.Steps.{field_shorter, readable_on, readable_not, readable_end}
use Rattle.acse_ber.proofs.field.are_fields.Goals as goal

pub returns-in_default : goal.returns-in_default
returns-in_default c =
    sym (readable_not c.fields.reader c.in_default.field-0 (is_ok (fields_of c.args.body.now))
    c.fields.invariant (λ none. let e : false
    ≡ true = c.fields-test.ensures.1 none in absurd cc) c.in_default.ensures)

pub fields-smaller : goal.fields-smaller
fields-smaller c = field_shorter c.fields.reader _ c.in-Ok.ensures

pub fields-preserved : goal.fields-preserved
fields-preserved c = readable_on c.fields.reader _ c.read_field.new.reader
    (is_ok (fields_of c.args.body.now)) c.fields.invariant c.in-Ok.ensures

pub returns : goal.returns
returns c = sym (readable_end c.fields.reader (is_ok (fields_of c.args.body.now)) c.fields.invariant
    (c.fields-test.ensures.0 refl))
