-- The reader of an AARE agrees with the spelling relation.
use Rattle.std.proofs.Common.{◌≡◌, ◌⊎◌, ℕ, Bool, true, false, not, ◌==◌, ◌||◌, Option, Some, None}
use Rattle.std.proofs.Common.{List, Ok, Err, Result, refl, sym, ap, subst, ◌∙◌, inl, inr}
use Rattle.std.proofs.lemmas.Bool.{ne_eqb}
use Rattle.wire_bytes.specs.Outcome.{◌>>=◌}
use Rattle.wire_bytes.proofs.Lawful.{found, read_again}
use Rattle.wire_bytes.proofs.OutcomeLemmas.{done, ok_is, bind_ok, guard_ok}
use Rattle.acse_ber.specs.Parts.{Field, info_part, result_part, diagnostic_part}
use Rattle.acse_ber.specs.Reading.{whole_value, tag_contents, fields_of, field_of, or_unreadable, inner_of}
use Rattle.acse_ber.specs.Reading.{known_info, or_absent, info_in, info_of, is_response, aare_with_diagnostic}
use Rattle.acse_ber.specs.Reading.{aare_with_result, aare_in, aare_of}
use Rattle.acse_ber.specs.Spelling.{HasInfo, IsInfo, SpellsAare}
use Rattle.acse_ber.specs.declared.aare.Aare.{Aare}
use Rattle.acse_ber.specs.declared.aare.Info.{Info}
use Rattle.acse_ber.specs.declared.aare.Info.TheVariants.{Absent, Response, InitiateError}
use Rattle.acse_ber.specs.declared.fault.AcseFault.{AcseFault}
use Rattle.acse_ber.specs.declared.fault.AcseFault.TheVariants.{Unreadable}
use Rattle.acse_ber.proofs.Fields.{one_found, one_again, inner_found, inner_again, needed_ok}
use Rattle.acse_ber.proofs.Aarqs.{fields_known, apdu_found, apdu_again}
use Rattle.acse_ber.proofs.PartLaws.{info_lawful, result_lawful, diagnostic_lawful}

-- ---- user information

abbrev given : Result ((ℕ × ℕ) ⊎ ℕ) AcseFault → Info
given read = or_absent (read >>= λ info. Ok (known_info info))

-- what was read is spelled; if nothing was, nothing is
info_by : (text : List ℕ) (read : Result ((ℕ × ℕ) ⊎ ℕ) AcseFault)
    → whole_value (info_part.read text) ≡ read → IsInfo (given read) text
info_by text (Ok (inl response)) e = found Unreadable info_lawful text (inl response) e
info_by text (Ok (inr error)) e = found Unreadable info_lawful text (inr error) e
info_by text (Err fault) e = λ info s.
    let both = sym e ∙ read_again Unreadable info_lawful text info s in
    absurd cc

info_found : (text : List ℕ) → IsInfo (info_in text) text
unfolding info_in
info_found text = info_by text (whole_value (info_part.read text)) refl

absent_by : (text : List ℕ) (read : Result ((ℕ × ℕ) ⊎ ℕ) AcseFault)
    → whole_value (info_part.read text) ≡ read → IsInfo Absent text → given read ≡ Absent
absent_by text (Ok info) e none = absurd (none info (found Unreadable info_lawful text info e))
absent_by text (Err fault) e none = refl

info_again : (info : Info) (text : List ℕ) → IsInfo info text → info_in text ≡ info
unfolding info_in
info_again Absent text none = absent_by text (whole_value (info_part.read text)) refl none
info_again (Response bits limit) text s =
    ap given (read_again Unreadable info_lawful text (inl (bits, limit)) s)
info_again (InitiateError error) text s =
    ap given (read_again Unreadable info_lawful text (inr error) s)

user_found : (body : List ℕ) (fields : List Field) (given : Option (List ℕ))
    → fields_of body ≡ Ok fields → inner_of 0xBE 0x04 body ≡ Ok given
    → HasInfo fields (info_of given)
user_found body fields None e f = inl (inner_found 0xBE 0x04 body fields None e f, refl)
user_found body fields (Some text) e f =
    inr (text, inner_found 0xBE 0x04 body fields (Some text) e f, info_found text)

user_again : (body : List ℕ) (fields : List Field) (info : Info) → fields_of body ≡ Ok fields
    → HasInfo fields info → (given : Option (List ℕ)) × (inner_of 0xBE 0x04 body ≡ Ok given)
    × (info_of given ≡ info)
user_again body fields info e (inl h) =
    (None, inner_again 0xBE 0x04 body fields None e h.0, sym h.1)
user_again body fields info e (inr h) =
    (Some h.0, inner_again 0xBE 0x04 body fields (Some h.0) e h.1, info_again info h.0 h.2)

-- ---- the whole

-- a test that holds unless the association is refused
accepts : (outcome : ℕ) (b : Bool) → (not (outcome == 0) || b) ≡ true → outcome ≡ 0 → b ≡ true
accepts outcome b e zero_is = sym (ap (λ (n : ℕ). not (n == 0) || b) zero_is) ∙ e

accepts_again : (outcome : ℕ) (b : Bool) → (outcome ≡ 0 → b ≡ true)
    → (not (outcome == 0) || b) ≡ true
accepts_again outcome true if_zero = elim (outcome == 0) as (λ t. (not t || true)
    ≡ true) [ true ↦ refl | false ↦ refl ]
accepts_again outcome false if_zero =
    let other : (outcome == 0) ≡ false = ne_eqb outcome 0 (λ e. let wrong : false
    ≡ true = if_zero e in absurd cc) in
    rw other refl

-- what is read is spelled
pub aare_found : (bytes : List ℕ) (aare : Aare) → aare_of bytes ≡ Ok aare → SpellsAare bytes aare
unfolding aare_of aare_in aare_with_result aare_with_diagnostic
aare_found bytes aare e =
    let t = bind_ok (tag_contents 0x61 bytes) _ aare e in
    let r = bind_ok (field_of 0xA2 t.0 >>= or_unreadable) _ aare t.2 in
    let o = bind_ok (whole_value (result_part.read r.0)) _ aare r.2 in
    let s = bind_ok (field_of 0xA3 t.0 >>= or_unreadable) _ aare o.2 in
    let d = bind_ok (whole_value (diagnostic_part.read s.0)) _ aare s.2 in
    let u = bind_ok (inner_of 0xBE 0x04 t.0) _ aare d.2 in
    let made : Aare = record { result = o.0; diagnostic = d.0; info = info_of u.0 } in
    let g = guard_ok (not (o.0 == 0) || is_response (info_of u.0)) Unreadable
    (done AcseFault made) aare u.2 in
    let result_field : field_of 0xA2 t.0 ≡ Ok (Some r.0) = needed_ok (field_of 0xA2 t.0) r.0 r.1 in
    let diagnostic_field : field_of 0xA3 t.0 ≡ Ok (Some s.0) =
    needed_ok (field_of 0xA3 t.0) s.0 s.1 in
    let f = fields_known 0xA2 t.0 (Some r.0) result_field in
    subst (λ (a : Aare). SpellsAare bytes a) (ok_is made aare g.1) (record {
      fields = f.0;
      is_apdu = apdu_found 0x61 bytes t.0 f.0 t.1 f.1;
      result_field = record {
        contents = r.0;
        one = one_found 0xA2 t.0 f.0 r.0 f.1 result_field;
        holds = found Unreadable result_lawful r.0 o.0 o.1;
      };
      diagnostic_field = record {
        contents = s.0;
        one = one_found 0xA3 t.0 f.0 s.0 f.1 diagnostic_field;
        holds =
            found Unreadable diagnostic_lawful s.0 d.0 d.1;
      };
      user = user_found t.0 f.0 u.0 f.1 u.1;
      responds = accepts o.0 (is_response (info_of u.0)) g.0;
    })

-- what is spelled is read
pub aare_again : (bytes : List ℕ) (aare : Aare) → SpellsAare bytes aare → aare_of bytes ≡ Ok aare
unfolding aare_of aare_in aare_with_result aare_with_diagnostic
aare_again bytes aare s =
    let a = apdu_again 0x61 bytes s.fields s.is_apdu in
    let body = s.is_apdu.body in
    let r = s.result_field in
    let d = s.diagnostic_field in
    let result_field : field_of 0xA2 body ≡ Ok (Some r.contents) =
    one_again 0xA2 body s.fields r.contents a.1 r.one in
    let outcome : whole_value (result_part.read r.contents) ≡ Ok aare.result =
    read_again Unreadable result_lawful r.contents aare.result r.holds in
    let diagnostic_field : field_of 0xA3 body ≡ Ok (Some d.contents) =
    one_again 0xA3 body s.fields d.contents a.1 d.one in
    let diagnostic : whole_value (diagnostic_part.read d.contents) ≡ Ok aare.diagnostic =
    read_again Unreadable diagnostic_lawful d.contents aare.diagnostic d.holds in
    let u = user_again body s.fields aare.info a.1 s.user in
    let test : (not (aare.result == 0) || is_response aare.info) ≡ true =
    accepts_again aare.result (is_response aare.info) s.responds in
    rw (a.0, result_field, outcome, diagnostic_field, diagnostic, u.1, u.2, test) refl
