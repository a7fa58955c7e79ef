-- The fields of an APDU, in any order: those that are read are spelled, and the other way round.
use Rattle.std.proofs.Common.{◌≡◌, ℕ, zero, suc, ◌≤◌, Option, Some, None, List, [], ◌∷◌, length, Ok}
use Rattle.std.proofs.Common.{Err, Result, refl, sym, ap, subst, ◌∙◌}
use Rattle.std.specs.Prelude.{unwrap_or}
use Rattle.wire_bytes.specs.Format.{AreItems}
use Rattle.wire_bytes.specs.Outcome.{◌>>=◌}
use Rattle.wire_bytes.proofs.Lawful.{found, read_again}
use Rattle.wire_bytes.proofs.OutcomeLemmas.{done, ok_is, bind_ok}
use Rattle.acse_ber.specs.Parts.{Field, tagged_part, field_part}
use Rattle.acse_ber.specs.Reading.{tag_contents, fields_within, fields_of, contents_of, at_most_one}
use Rattle.acse_ber.specs.Reading.{plain, field_of, or_unreadable, optional, inner_of}
use Rattle.acse_ber.specs.Spelling.{HasNone, HasInner}
use Rattle.acse_ber.specs.declared.fault.AcseFault.{AcseFault}
use Rattle.acse_ber.specs.declared.fault.AcseFault.TheVariants.{Unreadable}
use Rattle.acse_ber.proofs.PartLaws.{tagged_lawful, field_lawful}
use Rattle.acse_ber.proofs.Steps.{after, unrolled}

-- the contents of a tag that fill the bytes
pub tagged_found : (tag : ℕ) (bytes contents : List ℕ) → tag_contents tag bytes ≡ Ok contents
    → (tagged_part tag).Spells contents bytes
unfolding tag_contents
tagged_found tag bytes contents e = found Unreadable (tagged_lawful tag) bytes contents e

pub tagged_again : (tag : ℕ) (bytes contents : List ℕ) → (tagged_part tag).Spells contents bytes
    → tag_contents tag bytes ≡ Ok contents
unfolding tag_contents
tagged_again tag bytes contents s = read_again Unreadable (tagged_lawful tag) bytes contents s

-- fields that are read are spelled
pub fields_found : (limit : ℕ) (bytes : List ℕ) (fields : List Field) → fields_within limit bytes
    ≡ Ok fields → AreItems field_part.Spells fields bytes
unfolding fields_within
fields_found limit [] fields e = subst (λ (fs : List Field). AreItems field_part.Spells fs [])
    (ok_is {F = AcseFault} [] fields e) refl
fields_found zero (byte ∷ rest) fields e = absurd cc
fields_found (suc limit) (byte ∷ rest) fields e =
    let b = bind_ok (field_part.read (byte ∷ rest)) _ fields e in
    let o = bind_ok (fields_within limit b.0.1) _ fields b.2 in
    let t = field_lawful.agrees.takes (byte ∷ rest) b.0 b.1 in
    let others : AreItems field_part.Spells o.0 b.0.1 = fields_found limit b.0.1 o.0 o.1 in
    let made : List Field = b.0.0 ∷ o.0 in
    subst (λ (fs : List Field). AreItems field_part.Spells fs (byte ∷ rest))
    (ok_is {F = AcseFault} made fields o.2)
    (record {
      first = t.text;
      others = b.0.1;
      parts = t.parts;
      is_first = t.spelled;
      are_others = others;
    })

-- fields that are spelled are read
pub fields_again : (fields : List Field) (limit : ℕ) (bytes : List ℕ) → length bytes ≤ limit
    → AreItems field_part.Spells fields bytes → fields_within limit bytes ≡ Ok fields
unfolding fields_within
fields_again [] limit bytes le none = rw none refl
fields_again (field ∷ fields) limit bytes le j =
    let e : field_part.read bytes ≡ Ok (field, j.others) =
    ap field_part.read j.parts ∙ field_lawful.agrees.again field j.first j.others j.is_first in
    let u = unrolled limit bytes field j.others e le in
    u.2 ∙ ap (after field) (fields_again fields u.0 j.others u.1 j.are_others)

-- ---- the field of a tag

none_is : {X : Type 0} (xs : List X) → plain (at_most_one xs) ≡ Ok None → xs ≡ []
none_is [] e = refl
none_is (x ∷ []) e = absurd cc
none_is (x ∷ y ∷ more) e = absurd cc

one_is : {X : Type 0} (xs : List X) (x : X) → plain (at_most_one xs) ≡ Ok (Some x) → xs ≡ x ∷ []
one_is [] x e = absurd cc
one_is (y ∷ []) x e = ap (λ (z : Option _). unwrap_or z y
    ∷ []) (ok_is {F = AcseFault} (Some y) (Some x) e)
one_is (y ∷ z ∷ more) x e = absurd cc

-- the field of a tag, with the fields known
pub field_is : (tag : ℕ) (body : List ℕ) (fields : List Field) → fields_of body ≡ Ok fields
    → field_of tag body ≡ plain (at_most_one (contents_of tag fields))
unfolding field_of
field_is tag body fields e = rw e refl

-- a field that is absent, and one that is present
pub none_found : (tag : ℕ) (body : List ℕ) (fields : List Field) → fields_of body ≡ Ok fields
    → field_of tag body ≡ Ok None → HasNone tag fields
none_found tag body fields e f = none_is (contents_of tag fields) (sym (field_is tag body fields e)
    ∙ f)

pub one_found : (tag : ℕ) (body : List ℕ) (fields : List Field) (contents : List ℕ) → fields_of body
    ≡ Ok fields → field_of tag body ≡ Ok (Some contents) → contents_of tag fields ≡ contents ∷ []
one_found tag body fields contents e f = one_is (contents_of tag fields) contents
    (sym (field_is tag body fields e) ∙ f)

pub none_again : (tag : ℕ) (body : List ℕ) (fields : List Field) → fields_of body ≡ Ok fields
    → HasNone tag fields → field_of tag body ≡ Ok None
none_again tag body fields e none = field_is tag body fields e ∙ rw none refl

pub one_again : (tag : ℕ) (body : List ℕ) (fields : List Field) (contents : List ℕ) → fields_of body
    ≡ Ok fields → contents_of tag fields ≡ contents ∷ [] → field_of tag body ≡ Ok (Some contents)
one_again tag body fields contents e one = field_is tag body fields e ∙ rw one refl

-- the contents of the inner tag of a field
inner_case : (tag inner : ℕ) (body : List ℕ) (fields : List Field) (given o : Option (List ℕ))
    → fields_of body ≡ Ok fields → field_of tag body ≡ Ok given
    → optional (tag_contents inner) given ≡ Ok o → HasInner tag inner fields o
inner_case tag inner body fields None None e f g = none_found tag body fields e f
inner_case tag inner body fields None (Some text) e f g = absurd cc
inner_case tag inner body fields (Some contents) None e f g =
    let b = bind_ok (tag_contents inner contents) (λ y. done AcseFault (Some y)) None g in
    let wrong : done AcseFault (Some b.0) ≡ Ok None = b.2 in
    absurd cc
inner_case tag inner body fields (Some contents) (Some text) e f g =
    let b = bind_ok (tag_contents inner contents) (λ y. done AcseFault (Some y)) (Some text) g in
    let same : b.0 ≡ text = ap (λ (z : Option (List ℕ)). unwrap_or z [])
    (ok_is {F = AcseFault} (Some b.0) (Some text) b.2) in
    record {
      contents = contents;
      one = one_found tag body fields contents e f;
      holds = subst (λ (t : List ℕ). (tagged_part inner).Spells t contents) same
          (tagged_found inner contents b.0 b.1);
    }

pub inner_found : (tag inner : ℕ) (body : List ℕ) (fields : List Field) (o : Option (List ℕ))
    → fields_of body ≡ Ok fields → inner_of tag inner body ≡ Ok o → HasInner tag inner fields o
unfolding inner_of
inner_found tag inner body fields o e f =
    let b = bind_ok (field_of tag body) (optional (tag_contents inner)) o f in
    inner_case tag inner body fields b.0 o e b.1 b.2

pub inner_again : (tag inner : ℕ) (body : List ℕ) (fields : List Field) (o : Option (List ℕ))
    → fields_of body ≡ Ok fields → HasInner tag inner fields o → inner_of tag inner body ≡ Ok o
unfolding inner_of
inner_again tag inner body fields None e h = rw (none_again tag body fields e h) refl
inner_again tag inner body fields (Some text) e h = rw
    (one_again tag body fields h.contents e h.one, tagged_again inner h.contents text h.holds) refl

-- a needed value that was read is present
pub needed_ok : {X : Type 0} (r : Result (Option X) AcseFault) (x : X) → (r >>= or_unreadable)
    ≡ Ok x → r ≡ Ok (Some x)
needed_ok (Ok None) x e = absurd cc
needed_ok {X = X} (Ok (Some y)) x e = ap (λ (z : X). done AcseFault (Some z))
    (ok_is {F = AcseFault} y x e)
needed_ok (Err fault) x e = absurd cc
