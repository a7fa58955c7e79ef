-- The reader of an AARQ agrees with the spelling relation.
use Rattle.std.proofs.Common.{◌≡◌, ℕ, Option, Some, None, List, [], length, Result, Ok, Err, refl, sym, ap, subst, arith, inl, inr}
use Rattle.std.specs.Prelude.{unwrap_or}
use Rattle.wire_bytes.specs.Outcome.{◌>>=◌}
use Rattle.wire_bytes.proofs.OutcomeLemmas.{done, ok_is, bind_ok}
use Rattle.acse_ber.specs.Parts.{Field}
use Rattle.acse_ber.specs.Reading.{tag_contents, fields_of, plain, field_of, or_unreadable, inner_of, aarq_in, aarq_of}
use Rattle.acse_ber.specs.Spelling.{HasMechanism, IsApdu, SpellsAarq}
use Rattle.acse_ber.specs.declared.aarq.Aarq.{Aarq}
use Rattle.acse_ber.specs.declared.fault.AcseFault.{AcseFault}
use Rattle.acse_ber.proofs.Fields.{tagged_found, tagged_again, fields_found, fields_again, none_found, one_found, none_again, one_again, inner_found, inner_again, needed_ok}

plain_ok : {X : Type 0} (r : Result X AcseFault) (x : X) → plain r ≡ Ok x → r ≡ Ok x
plain_ok (Ok y) x e = e
plain_ok (Err fault) x e = absurd cc

-- if the field of a tag was searched successfully, all fields are known
pub fields_known : (tag : ℕ) (body : List ℕ) (o : Option (List ℕ)) → field_of tag body ≡ Ok o
    → (fields : List Field) × (fields_of body ≡ Ok fields)
unfolding field_of
fields_known tag body o e = let b = bind_ok (fields_of body) _ o (plain_ok _ o e) in (b.0, b.1)

-- an APDU from its parts
pub apdu_found : (tag : ℕ) (bytes body : List ℕ) (fields : List Field) → tag_contents tag bytes
    ≡ Ok body → fields_of body ≡ Ok fields → IsApdu tag fields bytes
apdu_found tag bytes body fields t f = record {
  body = body;
  is_tagged = tagged_found tag bytes body t;
  are_fields =
      fields_found (length body) body fields f;
}

pub apdu_again : (tag : ℕ) (bytes : List ℕ) (fields : List Field) (a : IsApdu tag fields bytes)
    → (tag_contents tag bytes ≡ Ok a.body) × (fields_of a.body ≡ Ok fields)
apdu_again tag bytes fields a = (
  tagged_again tag bytes a.body a.is_tagged,
  fields_again fields (length a.body) a.body (omega arith) a.are_fields,
)

mechanism_found : (body : List ℕ) (fields : List Field) (given : Option (List ℕ)) → fields_of body
    ≡ Ok fields → field_of 0x8B body ≡ Ok given → HasMechanism fields (unwrap_or given [])
mechanism_found body fields None e f = inl (none_found 0x8B body fields e f, refl)
mechanism_found body fields (Some contents) e f = inr
    (record { contents = contents; one = one_found 0x8B body fields contents e f; holds = refl })

mechanism_again : (body : List ℕ) (fields : List Field) (mechanism : List ℕ) → fields_of body
    ≡ Ok fields → HasMechanism fields mechanism → (given : Option (List ℕ))
    × (field_of 0x8B body ≡ Ok given) × (unwrap_or given [] ≡ mechanism)
mechanism_again body fields mechanism e (inl h) = (None, none_again 0x8B body fields e h.0, sym h.1)
mechanism_again body fields mechanism e (inr h) =
    (Some h.contents, one_again 0x8B body fields h.contents e h.one, h.holds)

-- what is read is spelled
pub aarq_found : (bytes : List ℕ) (aarq : Aarq) → aarq_of bytes ≡ Ok aarq → SpellsAarq bytes aarq
unfolding aarq_of aarq_in
aarq_found bytes aarq e =
    let t = bind_ok (tag_contents 0x60 bytes) _ aarq e in
    let c = bind_ok (inner_of 0xA1 0x06 t.0 >>= or_unreadable) _ aarq t.2 in
    let m = bind_ok (field_of 0x8B t.0) _ aarq c.2 in
    let p = bind_ok (inner_of 0xAC 0x80 t.0) _ aarq m.2 in
    let u = bind_ok (inner_of 0xBE 0x04 t.0 >>= or_unreadable) _ aarq p.2 in
    let f = fields_known 0x8B t.0 m.0 m.1 in
    let made : Aarq = record {
      context = c.0;
      mechanism = unwrap_or m.0 [];
      password = p.0;
      user = u.0;
    } in
    subst (λ (a : Aarq). SpellsAarq bytes a) (ok_is {F = AcseFault} made aarq u.2) (record {
      fields = f.0;
      is_apdu = apdu_found 0x60 bytes t.0 f.0 t.1 f.1;
      context = inner_found 0xA1 0x06 t.0 f.0 (Some c.0) f.1
          (needed_ok (inner_of 0xA1 0x06 t.0) c.0 c.1);
      mechanism = mechanism_found t.0 f.0 m.0 f.1 m.1;
      password = inner_found 0xAC 0x80 t.0 f.0 p.0 f.1 p.1;
      user = inner_found 0xBE 0x04 t.0 f.0 (Some u.0) f.1
          (needed_ok (inner_of 0xBE 0x04 t.0) u.0 u.1);
    })

-- what is spelled is read
pub aarq_again : (bytes : List ℕ) (aarq : Aarq) → SpellsAarq bytes aarq → aarq_of bytes ≡ Ok aarq
unfolding aarq_of aarq_in
aarq_again bytes aarq s =
    let a = apdu_again 0x60 bytes s.fields s.is_apdu in
    let body = s.is_apdu.body in
    let m = mechanism_again body s.fields aarq.mechanism a.1 s.mechanism in
    let c : inner_of 0xA1 0x06 body ≡ Ok (Some aarq.context) =
    inner_again 0xA1 0x06 body s.fields (Some aarq.context) a.1 s.context in
    let p : inner_of 0xAC 0x80 body ≡ Ok aarq.password =
    inner_again 0xAC 0x80 body s.fields aarq.password a.1 s.password in
    let u : inner_of 0xBE 0x04 body ≡ Ok (Some aarq.user) =
    inner_again 0xBE 0x04 body s.fields (Some aarq.user) a.1 s.user in
    rw (a.0, c, m.1, p, u) (ap (λ (given : List ℕ). done AcseFault
    (record {
      context = aarq.context;
      mechanism = given;
      password = aarq.password;
      user = aarq.user;
    })) m.2)
