-- No spelling of an APDU is a proper prefix of another, and bytes are an RLRQ exactly if they are
-- read as one.
use Rattle.std.proofs.Common.{◌≡◌, ◌↔◌, ℕ, Bool, true, List, [], ◌++◌, Result, Ok, Err, refl, sym, ap, ◌∙◌, append-nil}
use Rattle.std.specs.Prelude.{is_ok}
use Rattle.wire_bytes.specs.Outcome.{◌>>=◌}
use Rattle.wire_bytes.proofs.Lawful.{only_one}
use Rattle.wire_bytes.proofs.OutcomeLemmas.{ok_is, bind_ok}
use Rattle.acse_ber.specs.Parts.{tagged_part}
use Rattle.acse_ber.specs.Reading.{tag_contents, fields_of, aarq_of, aare_of, is_release_text}
use Rattle.acse_ber.specs.Spelling.{SpellsAarq, SpellsAare, SpellsRelease}
use Rattle.acse_ber.specs.declared.aarq.Aarq.{Aarq}
use Rattle.acse_ber.specs.declared.aare.Aare.{Aare}
use Rattle.acse_ber.specs.declared.fault.AcseFault.{AcseFault}
use Rattle.acse_ber.proofs.PartLaws.{tagged_lawful}
use Rattle.acse_ber.proofs.Aarqs.{apdu_found, apdu_again, aarq_again}
use Rattle.acse_ber.proofs.Aares.{aare_again}

-- the length after a tag determines where the contents end
ends : (tag : ℕ) (bytes rest one other : List ℕ) → (tagged_part tag).Spells one bytes
    → (tagged_part tag).Spells other (bytes ++ rest) → rest ≡ []
ends tag bytes rest one other s t = (only_one (tagged_lawful tag) bytes rest one other s t).0

-- bytes followed by nothing are the same bytes
same_bytes : (bytes rest : List ℕ) → rest ≡ [] → bytes ++ rest ≡ bytes
same_bytes bytes rest none = ap (λ (r : List ℕ). bytes ++ r) none ∙ append-nil bytes

pub one_aarq : (bytes rest : List ℕ) (one other : Aarq) → SpellsAarq bytes one
    → SpellsAarq (bytes ++ rest) other → (rest ≡ []) × (one ≡ other)
one_aarq bytes rest one other s t =
    let none = ends 0x60 bytes rest s.is_apdu.body t.is_apdu.body s.is_apdu.is_tagged
    t.is_apdu.is_tagged in (
      none,
      ok_is {F = AcseFault} one other (sym (aarq_again bytes one s)
          ∙ sym (ap aarq_of (same_bytes bytes rest none)) ∙ aarq_again (bytes ++ rest) other t),
    )

pub one_aare : (bytes rest : List ℕ) (one other : Aare) → SpellsAare bytes one
    → SpellsAare (bytes ++ rest) other → (rest ≡ []) × (one ≡ other)
one_aare bytes rest one other s t =
    let none = ends 0x61 bytes rest s.is_apdu.body t.is_apdu.body s.is_apdu.is_tagged
    t.is_apdu.is_tagged in (
      none,
      ok_is {F = AcseFault} one other (sym (aare_again bytes one s)
          ∙ sym (ap aare_of (same_bytes bytes rest none)) ∙ aare_again (bytes ++ rest) other t),
    )

pub one_release : (bytes rest : List ℕ) → SpellsRelease bytes → SpellsRelease (bytes ++ rest) → rest
    ≡ []
one_release bytes rest s t = ends 0x62 bytes rest s.1.body t.1.body s.1.is_tagged t.1.is_tagged

-- ---- RLRQ

is_there : {X : Type 0} (r : Result X AcseFault) → is_ok r ≡ true → (x : X) × (r ≡ Ok x)
is_there (Ok x) e = (x, refl)
is_there (Err fault) e = absurd cc

release_found : (bytes : List ℕ) → is_release_text bytes ≡ true → SpellsRelease bytes
unfolding is_release_text
release_found bytes e =
    let there = is_there (tag_contents 0x62 bytes >>= fields_of) e in
    let b = bind_ok (tag_contents 0x62 bytes) fields_of there.0 there.1 in
    (there.0, apdu_found 0x62 bytes b.0 there.0 b.1 b.2)

release_again : (bytes : List ℕ) → SpellsRelease bytes → is_release_text bytes ≡ true
unfolding is_release_text
release_again bytes s =
    let a = apdu_again 0x62 bytes s.0 s.1 in
    rw (a.0, a.1) refl

pub is_release_spelled : (bytes : List ℕ) (result : Bool) → result ≡ is_release_text bytes
    → (result ≡ true) ↔ SpellsRelease bytes
is_release_spelled bytes result e = (
  λ yes. release_found bytes (sym e ∙ yes),
  λ s. e
      ∙ release_again bytes s,
)
