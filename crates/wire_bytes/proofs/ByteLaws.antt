-- The formats of bytes are lawful.
use Rattle.std.proofs.Common.{◌≡◌, ℕ, zero, suc, ◌*◌, ◌^◌, ◌<◌, Bool, true, false, not, ◌==◌}
use Rattle.std.proofs.Common.{if◌then◌else◌, Option, Some, None, List, [], ◌∷◌, ◌++◌, length}
use Rattle.std.proofs.Common.{slice_index, Ok, refl, sym, ap, subst, ◌∙◌, append_assoc, arith}
use Rattle.std.specs.Int.{Width, w16, w32, byte_len, from_be_bytes, to_be_bytes}
use Rattle.std.proofs.lemmas.Bool.{eqb-true, eq-eqb}
use Rattle.std.proofs.lemmas.Nat.{from_be_bytes-to_be_bytes_2, from_be_bytes-to_be_bytes_4}
use Rattle.wire_bytes.specs.Format.{Format}
use Rattle.wire_bytes.specs.Reading.{read_as}
use Rattle.wire_bytes.specs.Choice.{Choice, Parts, value_of, is_distinct}
use Rattle.wire_bytes.specs.ByteFormats.{IsByte, same_byte, byte, octets, number, flag, optional}
use Rattle.wire_bytes.specs.ByteFormats.{one_of}
use Rattle.wire_bytes.proofs.ChoiceLaws.{AreLawful, keyed_lawful}
use Rattle.wire_bytes.proofs.Lawful.{Took, join, found_agrees, token_agrees, bytes_agrees, AreAll}
use Rattle.wire_bytes.proofs.Lawful.{parts_all, IsLawful, IsEquality, seen_lawful, empty_lawful}
use Rattle.wire_bytes.proofs.Lawful.{both_lawful, narrow_lawful, exactly_lawful, dropped_lawful}
use Rattle.wire_bytes.proofs.OutcomeLemmas.{done, ok_is, bind_ok}

-- ---- bytes

pub byte_equality : IsEquality same_byte
byte_equality = record { equal = eqb-true; itself = λ a. eq-eqb a a refl }

-- the elements of a text of bytes, 0 after its end
pub bytes_at : (text : List ℕ) → AreAll IsByte text → (i : ℕ) → slice_index text i < 256
bytes_at [] all i = omega arith
bytes_at (x ∷ text) all zero = all.0
bytes_at (x ∷ text) all (suc i) = bytes_at text all.1 i

pub bytes_all : (text : List ℕ) → ((i : ℕ) → slice_index text i < 256) → AreAll IsByte text
bytes_all [] at = tt
bytes_all (x ∷ text) at = (at 0, bytes_all text (λ i. at (suc i)))

pub byte_lawful : {F : Type 0} (fault : F) → IsLawful IsByte (byte fault)
byte_lawful fault = record {
  agrees = token_agrees fault;
  written = λ n fit. refl;
  fitting = λ n text all s. tt;
}

pub fixed_lawful : {F : Type 0} (fault : F) (n : ℕ) → IsLawful IsByte (octets fault n)
fixed_lawful fault n = record {
  agrees = bytes_agrees fault n;
  written = λ bytes fit. (fit, refl);
  fitting = λ bytes text all s. ap (λ (b : List ℕ). length b) s.1 ∙ s.0;
}

-- ---- numbers

-- a width whose numbers are read back
record IsWide (w : Width) : Type 0 where
  below : (s : List ℕ) → AreAll IsByte s → from_be_bytes w s < 2 ^ (8 * byte_len w)
  long : (n : ℕ) → length (to_be_bytes w n) ≡ byte_len w
  back : (n : ℕ) → n < 2 ^ (8 * byte_len w) → from_be_bytes w (to_be_bytes w n) ≡ n

number_lawful : {F : Type 0} (fault : F) (w : Width) → IsWide w → IsLawful IsByte (number fault w)
number_lawful {F = F} fault w wide = record {
  agrees = found_agrees (λ bytes. done F (from_be_bytes w bytes)) (number fault w).Spells
      (bytes_agrees fault (byte_len w))
      (λ bytes n text e s. (s.0, sym (ok_is {F = F} _ n e) ∙ ap (from_be_bytes w) s.1))
      (λ n text s. (text, ap (done F) (sym s.1), (s.0, refl)));
  written = λ n fit. (wide.long n, sym (wide.back n fit));
  fitting = λ n text all s. subst (λ (m : ℕ). m < 2 ^ (8 * byte_len w)) (sym s.1)
      (wide.below text all);
}

pub number_16_lawful : {F : Type 0} (fault : F) → IsLawful IsByte (number fault w16)
number_16_lawful fault = number_lawful fault w16 (record {
  below = λ s all. let at = bytes_at s all in omega (arith, at 0, at 1);
  long = λ n. refl;
  back = from_be_bytes-to_be_bytes_2;
})

pub number_32_lawful : {F : Type 0} (fault : F) → IsLawful IsByte (number fault w32)
number_32_lawful fault = number_lawful fault w32 (record {
  below = λ s all. let at = bytes_at s all in omega (arith, at 0, at 1, at 2, at 3);
  long = λ n. refl;
  back = from_be_bytes-to_be_bytes_4;
})

-- ---- flags and parts that may be absent

pub flag_lawful : {F : Type 0} (fault : F) → IsLawful IsByte (flag fault)
flag_lawful fault = narrow_lawful fault (λ n. Some (not (n == 0))) _ (byte fault) known (λ n. tt)
    (byte_lawful fault)
  where
    known : (holds : Bool) → Some (not ((if holds then 0x01 else 0x00) == 0)) ≡ Some holds
    known true = refl
    known false = refl

pub optional_lawful : {F A : Type 0} (fault : F) (part : Format ℕ F A) → IsLawful IsByte part
    → IsLawful IsByte (optional fault part)
optional_lawful {F = F} {A = A} fault part lawful = record {
  agrees = record { takes = takes; again = again };
  written = written;
  fitting = fitting;
}
  where
    -- what is read after a flag
    after : (present : Bool) (first rest : List ℕ) (x : Option A × List ℕ)
        → (flag fault).Spells present first
        → (if present then read_as Some (part.read rest) else Ok (None, rest)) ≡ Ok x
        → Took (Option A) (optional fault part).Spells (first ++ rest) x
    after true first rest x is e =
        let b = bind_ok (part.read rest) (λ a. done F (Some a.0, a.1)) x e in
        let t = lawful.agrees.takes rest b.0 b.1 in
        subst (λ (z : Option A × List ℕ).
        Took (Option A) (optional fault part).Spells (first ++ rest) z)
        (ok_is (Some b.0.0, b.0.1) x b.2) (record {
          text = first ++ t.text;
          parts = rw (append_assoc first t.text b.0.1) (ap (λ (r : List ℕ). first ++ r) t.parts);
          spelled = join first t.text is t.spelled;
        })
    after false first rest x is e =
        subst (λ (z : Option A × List ℕ).
        Took (Option A) (optional fault part).Spells (first ++ rest) z)
        (ok_is {F = F} (None, rest) x e) (record { text = first; parts = refl; spelled = is })

    takes : (bytes : List ℕ) (x : Option A × List ℕ) → (optional fault part).read bytes ≡ Ok x
        → Took (Option A) (optional fault part).Spells bytes x
    takes bytes x e =
        let p = bind_ok ((flag fault).read bytes) _ x e in
        let t = (flag_lawful fault).agrees.takes bytes p.0 p.1 in
        rw t.parts (after p.0.0 t.text p.0.1 x t.spelled p.2)

    again : (o : Option A) (text rest : List ℕ) → (optional fault part).Spells o text
        → (optional fault part).read (text ++ rest) ≡ Ok (o, rest)
    again None text rest s = rw ((flag_lawful fault).agrees.again false text rest s) refl
    again (Some a) text rest j = rw (
      j.parts,
      append_assoc j.first j.others rest,
      (flag_lawful fault).agrees.again true j.first (j.others ++ rest) j.is_first,
      lawful.agrees.again a j.others rest j.are_others,
    ) refl

    written : (o : Option A) → (optional fault part).Fits o
        → (optional fault part).Spells o ((optional fault part).text o)
    written None fit = (flag_lawful fault).written false tt
    written (Some a) fit =
        join (1 ∷ []) (part.text a) ((flag_lawful fault).written true tt) (lawful.written a fit)

    fitting : (o : Option A) (text : List ℕ) → AreAll IsByte text
        → (optional fault part).Spells o text → (optional fault part).Fits o
    fitting None text all s = tt
    fitting (Some a) text all j =
        lawful.fitting a j.others (parts_all IsByte all j).1 j.are_others

-- ---- a choice by the next byte

pub one_of_lawful : {F A : Type 0} (missing : F) (c : Choice ℕ F A) (parts : A → Parts c)
    → ((a : A) → value_of c (parts a) ≡ a) → ((p : Parts c) → parts (value_of c p) ≡ p)
    → is_distinct same_byte c ≡ true → AreLawful IsByte c
    → IsLawful IsByte (one_of missing c parts)
one_of_lawful missing c parts there back distinct lawful =
    keyed_lawful IsByte same_byte byte_equality missing c parts there back distinct lawful

-- what `search` needs to prove that a format made of these is lawful
pub ruleset byte_formats = (
  byte_lawful,
  flag_lawful,
  fixed_lawful,
  number_16_lawful,
  number_32_lawful,
  optional_lawful,
  empty_lawful,
  exactly_lawful,
  byte_equality,
  dropped_lawful,
  both_lawful,
  seen_lawful,
)
