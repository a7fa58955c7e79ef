use Rattle.std.proofs.Common.{◌≡◌, ℕ, List, Bor, None, false, true, option_map, refl}
use Rattle.std.proofs.lemmas.Bool.{eq-eqb, ne_eqb}
use Rattle.acse_ber.specs.Reading.{fields_of, field_of}
use Rattle.acse_ber.proofs.Steps.{still, field_shorter, skips, finds, is_twice, is_refused}
use Rattle.acse_ber.proofs.Steps.{is_found}
use Rattle.acse_ber.proofs.field.find_field.Goals as goal

pub returns-in_default : goal.returns-in_default
unfolding field_of
returns-in_default c =
    is_refused c.args.tag (option_map (λ (b : Bor (List ℕ)). b.now) c.fields.found)
    c.fields.reader c.in_default.field-0 (still c.args.tag None (fields_of c.args.body.now))
    c.fields.invariant (λ none. let e : false ≡ true = c.fields-test.ensures.1 none in absurd cc)
    c.in_default.ensures

pub returns-then-is_some : goal.returns-then-is_some
unfolding field_of
returns-then-is_some c =
    is_twice (λ (b : Bor (List ℕ)). b.now) c.args.tag c.fields.found c.fields.reader _
    c.read_field.new.reader (still c.args.tag None (fields_of c.args.body.now))
    c.fields.invariant c.in-Ok.ensures (eq-eqb _ _ c.if-field-tag.true) c.if-is_some.ensures

pub fields-smaller-then-field-tag : goal.fields-smaller-then-field-tag
fields-smaller-then-field-tag c = field_shorter c.fields.reader _ c.in-Ok.ensures

pub fields-preserved-then-field-tag : goal.fields-preserved-then-field-tag
fields-preserved-then-field-tag c =
    finds (λ (b : Bor (List ℕ)). b.now) c.args.tag c.fields.found c.fields.reader _
    c.read_field.new.reader (still c.args.tag None (fields_of c.args.body.now))
    c.fields.invariant c.in-Ok.ensures (eq-eqb _ _ c.if-field-tag.true) c.if-is_some.ensures

pub fields-smaller : goal.fields-smaller
fields-smaller c = field_shorter c.fields.reader _ c.in-Ok.ensures

pub fields-preserved : goal.fields-preserved
fields-preserved c =
    skips c.args.tag (option_map (λ (b : Bor (List ℕ)). b.now) c.fields.found) c.fields.reader _
    c.read_field.new.reader (still c.args.tag None (fields_of c.args.body.now))
    c.fields.invariant c.in-Ok.ensures (ne_eqb _ _ c.if-field-tag.false)

pub returns : goal.returns
unfolding field_of
returns c =
    is_found c.args.tag (option_map (λ (b : Bor (List ℕ)). b.now) c.fields.found) c.fields.reader
    (still c.args.tag None (fields_of c.args.body.now))
    c.fields.invariant (c.fields-test.ensures.0 refl)
