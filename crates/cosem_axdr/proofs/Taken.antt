-- The two laws that connect reading and spelling: what is read is spelled by the bytes taken, and
-- what is spelled is read, whatever bytes follow.
--     Takes                       the bytes that a step takes, also from those left to a Data
--     bytes_takes .. leaf_takes   what each step reads is spelled by what it takes
use Rattle.std.proofs.Common.{◌≡◌, ℕ, zero, suc, ◌+◌, ◌-◌, ◌<◌, ◌≤◌, cond, not, eqb, ◌&&◌, ◌==◌, nat_lt, nat_le, List, [], ◌∷◌, ◌++◌, length, take, drop, Ok, refl, sym, ap, subst, ◌∙◌, append_assoc, arith, inl, inr, slice_index}
use Rattle.std.specs.Int.{Width, w8, w16, w32, w64, byte_len, from_be_bytes, cast_signed}
use Rattle.std.proofs.lemmas.Bool.{and_parts, ltb-true, leb-true, eqb-true}
use Rattle.std.proofs.lemmas.List.{take-append-drop, length-append, length-take}
use Rattle.wire_bytes.specs.Outcome.{◌>>=◌, ◌>>◌, guard}
use Rattle.wire_bytes.proofs.OutcomeLemmas.{done, failed, ok_is, bind_ok, guard_ok, chosen}
use Rattle.cosem_axdr.specs.Limits.{max_items, bytes_for, without_unused_bits}
use Rattle.wire_bytes.specs.Format.{items_read}
use Rattle.wire_bytes.specs.Reading.{read_as}
use Rattle.cosem_axdr.specs.Reading.{Place, Read, bytes_at, byte_at, big_endian, length_at, string_at, unsigned_at, bits_at, fixed_at, leaf_at, counted_at, value_at, nested_at}
use Rattle.cosem_axdr.specs.Spelling.{IsLength, IsString, IsBits, IsCounted, IsUnsigned, IsFixed, AreContents, AreSpelled, Spells, tag_of}
use Rattle.cosem_axdr.specs.Tree.{Trees, trees_of, count_of, nesting, nests}
use Rattle.cosem_axdr.specs.View.{tree_of, all_trees}
use Rattle.cosem_axdr.specs.declared.fault.DataFault.{DataFault}
use Rattle.cosem_axdr.specs.declared.fault.DataFault.TheVariants.{Truncated, UnknownTag, TooDeep, TooLong}
use Rattle.cosem_axdr.specs.declared.value.Data.{Data}
use Rattle.cosem_axdr.specs.declared.value.Data.TheVariants.{Null, Array, Structure, Boolean, DoubleLong, DoubleLongUnsigned, OctetString, VisibleString, Utf8String, Integer, Long, Unsigned, LongUnsigned, Long64, Long64Unsigned, Enum, DateTime, Date, Time, BitString}

-- a step took these bytes, and as many from those left to a Data
pub record Takes (old : Place) (text : List ℕ) (new : Place) : Type 0 where
  pub bytes : old.bytes ≡ text ++ new.bytes
  pub room : old.room ≡ length text + new.room

-- zero is the least number
least : (n : ℕ) → 0 ≤ n
least n = omega arith

-- the rest is no longer than the bytes before
pub length-Takes : (old : Place) (text : List ℕ) (new : Place) → Takes old text new
    → length new.bytes ≤ length old.bytes
length-Takes old text new t = omega (
  arith,
  ap (λ (bytes : List ℕ). length bytes) t.bytes,
  length-append text new.bytes,
)

-- a step that takes no bytes
pub Takes-none : (place : Place) → Takes place [] place
Takes-none place = record { bytes = refl; room = omega arith }

-- two consecutive steps
pub Takes-then : (a : Place) (x : List ℕ) (b : Place) (y : List ℕ) (c : Place) → Takes a x b
    → Takes b y c → Takes a (x ++ y) c
Takes-then a x b y c p q = record {
  bytes = p.bytes ∙ ap (λ (t : List ℕ). x ++ t) q.bytes ∙ sym (append_assoc x y c.bytes);
  room = omega (arith, p.room, q.room, length-append x y);
}

-- a step read a value of this kind from the bytes that it took
pub record Took (X : Type 0) (IsSpelled : List ℕ → X → Type 0) (old : Place) (read : X
    × Place) : Type 0 where
  pub text : List ℕ
  pub takes : Takes old text read.1
  pub spelled : IsSpelled text read.0

-- a step whose value is converted
pub read_as_takes : {X Y : Type 0} (IsX : List ℕ → X → Type 0) (IsY : List ℕ → Y → Type 0) (make : X
    → Y) → ((text : List ℕ) (x : X) → IsX text x → IsY text (make x))
    → (old : Place) (read : Read X) (y : Y × Place)
    → ((x : X × Place) → read ≡ Ok x → Took X IsX old x) → read_as make read ≡ Ok y
    → Took Y IsY old y
read_as_takes {Y = Y} IsX IsY make seen old read y takes e =
    let b = bind_ok read (λ x. done DataFault (make x.0, x.1)) y e in
    let t = takes b.0 b.1 in
    let made : Y × Place = (make b.0.0, b.0.1) in
    subst (λ (z : Y × Place). Took Y IsY old z) (ok_is made y b.2)
    (record { text = t.text; takes = t.takes; spelled = seen t.text b.0.0 t.spelled })

-- the next bytes are those that are taken
pub bytes_takes : (n : ℕ) (place : Place) (x : List ℕ × Place) → bytes_at n place ≡ Ok x
    → Took (List ℕ) (IsFixed n) place x
bytes_takes n place x e =
    let rest : Place = record { bytes = drop n place.bytes; room = place.room - n } in
    let made : List ℕ × Place = (take n place.bytes, rest) in
    let g = guard_ok (nat_le n place.room) TooLong
    (guard (nat_le n (length place.bytes)) Truncated >> done DataFault made) x e in
    let h = guard_ok (nat_le n (length place.bytes)) Truncated (done DataFault made) x g.1 in
    let room : n ≤ place.room = leb-true n place.room g.0 in
    let long : n ≤ length place.bytes = leb-true n (length place.bytes) h.0 in
    let len : length (take n place.bytes) ≡ n = omega (arith, length-take n place.bytes) in
    subst (λ (z : List ℕ × Place). Took (List ℕ) (IsFixed n) place z) (ok_is made x h.1)
    (record {
      text = take n place.bytes;
      takes = record
          { bytes = sym (take-append-drop n place.bytes); room = omega arith };
      spelled =
          (len, refl);
    })

-- ---- lengths, strings, numbers

-- a list of length one is its only byte
only_byte : (bytes : List ℕ) → length bytes ≡ 1 → bytes ≡ slice_index bytes 0 ∷ []
only_byte [] len = absurd (omega arith)
only_byte (b ∷ []) len = refl
only_byte (b ∷ c ∷ bytes) len = absurd (omega arith)

-- a text of one byte
abbrev pub IsByte : List ℕ → ℕ → Type 0
IsByte text byte = text ≡ byte ∷ []

pub byte_takes : (place : Place) (x : ℕ × Place) → byte_at place ≡ Ok x → Took ℕ IsByte place x
byte_takes place x e =
    read_as_takes (IsFixed 1) IsByte (λ bytes. slice_index bytes 0)
    (λ text bytes f. only_byte text f.0 ∙ ap (λ (bs : List ℕ). slice_index bs 0 ∷ []) (sym f.1))
    place (bytes_at 1 place) x (bytes_takes 1 place) e

-- the bytes of a length in a long form
abbrev IsLong : ℕ → List ℕ → ℕ → Type 0
IsLong k text n = (length text ≡ k) × (n ≡ big_endian text)

pub length_takes : (place : Place) (x : ℕ × Place) → length_at place ≡ Ok x
    → Took ℕ IsLength place x
unfolding length_at
length_takes place x e =
    let b = bind_ok (byte_at place) (λ first. cond (nat_lt first.0 0x80) (Ok first)
    (guard (nat_lt 0x80 first.0 && nat_le first.0 0x84) TooLong >> read_as big_endian
    (bytes_at (first.0 - 0x80) first.1))) x e in
    let t = byte_takes place b.0 b.1 in
    elim (chosen (nat_lt b.0.0 0x80) _ _ _ b.2) [
      | inl h ↦
          let below : b.0.0 < 0x80 = ltb-true b.0.0 0x80 h.0 in
          let spelled : IsLength t.text b.0.0 =
          subst (λ (s : List ℕ). IsLength s b.0.0) (sym t.spelled) (inl (below, refl, refl)) in
          subst (λ (z : ℕ × Place). Took ℕ IsLength place z) (ok_is b.0 x h.1)
          (record { text = t.text; takes = t.takes; spelled = spelled })
      | inr h ↦
          let k = b.0.0 - 0x80 in
          let g = guard_ok (nat_lt 0x80 b.0.0 && nat_le b.0.0 0x84) TooLong
          (read_as big_endian (bytes_at k b.0.1)) x h.1 in
          let both = and_parts _ _ g.0 in
          let low : 0x80 < b.0.0 = ltb-true 0x80 b.0.0 both.0 in
          let high : b.0.0 ≤ 0x84 = leb-true b.0.0 0x84 both.1 in
          let u = read_as_takes (IsFixed k) (IsLong k) big_endian
          (λ text bytes f. (f.0, ap big_endian f.1)) b.0.1 (bytes_at k b.0.1) x
          (bytes_takes k b.0.1) g.1 in
          let form : b.0.0 ≡ 0x80 + length u.text = omega (arith, u.spelled.0) in
          let spelled : IsLength (b.0.0 ∷ u.text) x.0 =
          inr (omega arith, high, form, u.spelled.1) in
          record {
            text = t.text ++ u.text;
            takes = Takes-then place t.text b.0.1 u.text x.1 t.takes
                u.takes;
            spelled = subst (λ (s : List ℕ). IsLength (s ++ u.text) x.0)
                (sym t.spelled) spelled;
          }
    ]

pub string_takes : (place : Place) (x : List ℕ × Place) → string_at place ≡ Ok x
    → Took (List ℕ) IsString place x
unfolding string_at
string_takes place x e =
    let b = bind_ok (length_at place) (λ n. bytes_at n.0 n.1) x e in
    let t = length_takes place b.0 b.1 in
    let u = bytes_takes b.0.0 b.0.1 x b.2 in
    let len : b.0.0 ≡ length x.0 = sym u.spelled.0
    ∙ ap (λ (s : List ℕ). length s) (sym u.spelled.1) in
    record {
      text = t.text ++ u.text;
      takes = Takes-then place t.text b.0.1 u.text x.1 t.takes u.takes;
      spelled = record {
        length_text = t.text;
        parts = ap (λ (s : List ℕ). t.text
            ++ s) (sym u.spelled.1);
        is_length = subst (λ (n : ℕ). IsLength t.text n) len t.spelled;
      };
    }

pub unsigned_takes : (w : Width) (place : Place) (x : ℕ × Place) → unsigned_at w place ≡ Ok x
    → Took ℕ (IsUnsigned w) place x
unsigned_takes w place x e =
    read_as_takes (IsFixed (byte_len w)) (IsUnsigned w) (from_be_bytes w)
    (λ text bytes f. (f.0, ap (from_be_bytes w) f.1)) place (bytes_at (byte_len w) place) x
    (bytes_takes (byte_len w) place) e

-- ---- values

-- the bytes after a tag spell a Data of this type, nested at most to this depth
abbrev pub IsBody : ℕ → ℕ → List ℕ → Data → Type 0
IsBody levels tag contents d = (tag ≡ tag_of (tree_of d)) × AreContents contents (tree_of d)
    × (nesting (tree_of d) ≤ levels)

pub bits_takes : (levels : ℕ) (place : Place) (x : Data × Place) → bits_at place ≡ Ok x
    → Took Data (IsBody levels 0x04) place x
unfolding bits_at
bits_takes levels place x e =
    let b = bind_ok (length_at place) (λ bits. bytes_at (bytes_for bits.0) bits.1
    >>= λ bytes. done DataFault (
      BitString bits.0 (without_unused_bits bits.0 bytes.0),
      bytes.1,
    )) x e in
    let c = bind_ok (bytes_at (bytes_for b.0.0) b.0.1)
    (λ bytes. done DataFault (BitString b.0.0 (without_unused_bits b.0.0 bytes.0), bytes.1)) x
    b.2 in
    let t = length_takes place b.0 b.1 in
    let u = bytes_takes (bytes_for b.0.0) b.0.1 c.0 c.1 in
    let made : Data × Place = (BitString b.0.0 (without_unused_bits b.0.0 c.0.0), c.0.1) in
    let bits : IsBits (t.text ++ u.text) b.0.0 (without_unused_bits b.0.0 c.0.0) = record {
      length_text = t.text;
      raw = u.text;
      parts = refl {a = t.text ++ u.text};
      is_length = t.spelled;
      long = u.spelled.0;
      value =
          ap (without_unused_bits b.0.0) u.spelled.1;
    } in
    subst (λ (z : Data × Place). Took Data (IsBody levels 0x04) place z) (ok_is made x c.2)
    (record {
      text = t.text ++ u.text;
      takes = Takes-then place t.text b.0.1 u.text c.0.1 t.takes
          u.takes;
      spelled = (refl, bits, least levels);
    })

-- a leaf that is an unsigned number, or a signed one
unsigned_leaf : (levels tag : ℕ) (w : Width) (make : ℕ → Data)
    → ((text : List ℕ) (n : ℕ) → IsUnsigned w text n → IsBody levels tag text (make n))
    → (place : Place) (x : Data × Place) → read_as make (unsigned_at w place) ≡ Ok x
    → Took Data (IsBody levels tag) place x
unsigned_leaf levels tag w make body place x e = read_as_takes (IsUnsigned w)
    (IsBody levels tag) make body place (unsigned_at w place) x (unsigned_takes w place) e

string_leaf : (levels tag : ℕ) (make : List ℕ → Data)
    → ((text bytes : List ℕ) → IsString text bytes → IsBody levels tag text (make bytes))
    → (place : Place) (x : Data × Place) → read_as make (string_at place) ≡ Ok x
    → Took Data (IsBody levels tag) place x
string_leaf levels tag make body place x e = read_as_takes IsString (IsBody levels tag) make body
    place (string_at place) x (string_takes place) e

fixed_leaf : (levels tag n : ℕ) (make : List ℕ → Data)
    → ((text bytes : List ℕ) → IsFixed n text bytes → IsBody levels tag text (make bytes))
    → (place : Place) (x : Data × Place) → read_as make (bytes_at n place) ≡ Ok x
    → Took Data (IsBody levels tag) place x
fixed_leaf levels tag n make body place x e = read_as_takes (IsFixed n) (IsBody levels tag) make
    body place (bytes_at n place) x (bytes_takes n place) e

unknown_tag : {X : Type 0} (x : X) → failed X UnknownTag ≡ done DataFault x → ⊥
unknown_tag x e = absurd cc

fixed_takes : (levels tag : ℕ) (place : Place) (x : Data × Place) → fixed_at tag place ≡ Ok x
    → Took Data (IsBody levels tag) place x
unfolding fixed_at
fixed_takes levels tag place x e =
    elim (chosen (eqb tag 0x00) _ _ _ e) [
      | inl h ↦ let is : tag ≡ 0x00 = eqb-true tag 0x00 h.0 in subst
          (λ (z : Data × Place). Took Data (IsBody levels tag) place z) (ok_is (Null, place) x h.1)
          (record { text = []; takes = Takes-none place; spelled = (is, refl, least levels) })
      | inr r00 ↦
          elim (chosen (eqb tag 0x03) _ _ _ r00.1) [
            | inl h ↦ let is : tag ≡ 0x03 = eqb-true tag 0x03 h.0 in read_as_takes IsByte
                (IsBody levels tag) (λ byte. Boolean (not (byte == 0)))
                (λ text byte f. (is, (byte, f, refl), least levels)) place (byte_at place) x
                (byte_takes place) h.1
            | inr r03 ↦
                elim (chosen (eqb tag 0x05) _ _ _ r03.1) [
                  | inl h ↦ let is : tag ≡ 0x05 = eqb-true tag 0x05 h.0 in unsigned_leaf levels tag
                      w32 (λ n. DoubleLong (cast_signed w32 n))
                      (λ text n f. (is, (f.0, ap (cast_signed w32) f.1), least levels)) place x h.1
                  | inr r05 ↦
                      elim (chosen (eqb tag 0x06) _ _ _ r05.1) [
                        | inl h ↦ let is : tag
                            ≡ 0x06 = eqb-true tag 0x06 h.0 in unsigned_leaf levels tag w32
                            DoubleLongUnsigned (λ text n f. (is, f, least levels)) place x h.1
                        | inr r06 ↦
                            elim (chosen (eqb tag 0x0F) _ _ _ r06.1) [
                              | inl h ↦ let is : tag
                                  ≡ 0x0F = eqb-true tag 0x0F h.0 in unsigned_leaf levels tag w8
                                  (λ n. Integer (cast_signed w8 n))
                                  (λ text n f. (is, (f.0, ap (cast_signed w8) f.1), least levels))
                                  place x h.1
                              | inr r0F ↦
                                  elim (chosen (eqb tag 0x10) _ _ _ r0F.1) [
                                    | inl h ↦ let is : tag
                                        ≡ 0x10 = eqb-true tag 0x10 h.0 in unsigned_leaf levels tag
                                        w16 (λ n. Long (cast_signed w16 n))
                                        (λ text n f. (
                                          is,
                                          (f.0, ap (cast_signed w16) f.1),
                                          least levels,
                                        )) place x h.1
                                    | inr r10 ↦
                                        elim (chosen (eqb tag 0x11) _ _ _ r10.1) [
                                          | inl h ↦ let is : tag
                                              ≡ 0x11 = eqb-true tag 0x11 h.0 in unsigned_leaf levels
                                              tag w8 Unsigned
                                              (λ text n f. (is, f, least levels)) place x h.1
                                          | inr r11 ↦
                                              elim (chosen (eqb tag 0x12) _ _ _ r11.1) [
                                                | inl h ↦ let is : tag
                                                    ≡ 0x12 = eqb-true tag 0x12 h.0 in unsigned_leaf
                                                    levels tag w16 LongUnsigned
                                                    (λ text n f. (is, f, least levels)) place x h.1
                                                | inr r12 ↦
                                                    elim (chosen (eqb tag 0x14) _ _ _ r12.1) [
                                                      | inl h ↦ let is : tag
                                                          ≡ 0x14 = eqb-true tag 0x14 h.0
                                                          in unsigned_leaf levels tag w64
                                                          (λ n. Long64 (cast_signed w64 n))
                                                          (λ text n f. (
                                                            is,
                                                            (f.0, ap (cast_signed w64) f.1),
                                                            least levels,
                                                          )) place x h.1
                                                      | inr r14 ↦
                                                          elim (chosen (eqb tag 0x15) _ _ _ r14.1) [
                                                            | inl h ↦ let is : tag
                                                                ≡ 0x15 = eqb-true tag 0x15 h.0
                                                                in unsigned_leaf levels tag w64
                                                                Long64Unsigned
                                                                (λ text n f. (is, f, least levels))
                                                                place x h.1
                                                            | inr r15 ↦
                                                                elim (chosen
                                                                (eqb tag 0x16) _ _ _ r15.1) [
                                                                  | inl h ↦ let is : tag
                                                                      ≡ 0x16 = eqb-true tag 0x16 h.0
                                                                      in unsigned_leaf levels tag w8
                                                                      Enum (λ text n f. (
                                                                        is,
                                                                        f,
                                                                        least levels,
                                                                      )) place x h.1
                                                                  | inr r16 ↦
                                                                      elim (chosen
                                                                      (eqb tag 0x19) _
                                                                      _ _ r16.1) [
                                                                        | inl h ↦ let is : tag
                                                                            ≡ 0x19 = eqb-true tag
                                                                            0x19 h.0 in fixed_leaf
                                                                            levels tag 12 DateTime
                                                                            (λ text bytes f. (
                                                                              is,
                                                                              f,
                                                                              least levels,
                                                                            )) place x
                                                                            h.1
                                                                        | inr r19 ↦
                                                                            elim (chosen
                                                                            (eqb tag 0x1A) _ _ _
                                                                            r19.1) [
                                                                              | inl h ↦ let is : tag
                                                                                  ≡ 0x1A = eqb-true
                                                                                  tag 0x1A h.0
                                                                                  in fixed_leaf
                                                                                  levels tag 5 Date
                                                                                  (λ text bytes f. (
                                                                                    is,
                                                                                    f,
                                                                                    least
                                                                                        levels,
                                                                                  )) place x
                                                                                  h.1
                                                                              | inr r1A ↦
                                                                                  elim (chosen
                                                                                  (eqb tag 0x1B)
                                                                                  _ _ _ r1A.1) [
                                                                                    | inl h ↦
                                                                                        let is : tag
                                                                                        ≡ 0x1B =
                                                                                        eqb-true tag
                                                                                        0x1B h.0
                                                                                        in fixed_leaf levels tag 4 Time (λ text bytes f. (is, f, least levels)) place x h.1
                                                                                    | inr r1B ↦
                                                                                        absurd (unknown_tag x r1B.1)
                                                                                  ]
                                                                            ]
                                                                      ]
                                                                ]
                                                          ]
                                                    ]
                                              ]
                                        ]
                                  ]
                            ]
                      ]
                ]
          ]
    ]

pub leaf_takes : (levels tag : ℕ) (place : Place) (x : Data × Place) → leaf_at tag place ≡ Ok x
    → Took Data (IsBody levels tag) place x
unfolding leaf_at
leaf_takes levels tag place x e =
    elim (chosen (eqb tag 0x04) _ _ _ e) [
      | inl h ↦ let is : tag ≡ 0x04 = eqb-true tag 0x04 h.0 in subst
          (λ (n : ℕ). Took Data (IsBody levels n) place x) (sym is) (bits_takes levels place x h.1)
      | inr r04 ↦
          elim (chosen (eqb tag 0x09) _ _ _ r04.1) [
            | inl h ↦ let is : tag ≡ 0x09 = eqb-true tag 0x09 h.0 in string_leaf levels tag
                OctetString (λ text bytes f. (is, f, least levels)) place x h.1
            | inr r09 ↦
                elim (chosen (eqb tag 0x0A) _ _ _ r09.1) [
                  | inl h ↦ let is : tag ≡ 0x0A = eqb-true tag 0x0A h.0 in string_leaf levels tag
                      VisibleString (λ text bytes f. (is, f, least levels)) place x h.1
                  | inr r0A ↦
                      elim (chosen (eqb tag 0x0C) _ _ _ r0A.1) [
                        | inl h ↦ let is : tag
                            ≡ 0x0C = eqb-true tag 0x0C h.0 in string_leaf levels tag Utf8String
                            (λ text bytes f. (is, f, least levels)) place x h.1
                        | inr r0C ↦ fixed_takes levels tag place x r0C.1
                      ]
                ]
          ]
    ]

-- bytes spell a Data nested at most to this depth, and consecutive values
abbrev pub IsValue : ℕ → List ℕ → Data → Type 0
IsValue levels text d = Spells text (tree_of d) × (nesting (tree_of d) ≤ levels)

abbrev pub AreValues : ℕ → ℕ → List ℕ → List Data → Type 0
AreValues levels n text ds = AreSpelled text (trees_of (all_trees ds))
    × (nests (trees_of (all_trees ds)) ≤ levels) × (count_of (trees_of (all_trees ds)) ≡ n)

-- the contents of an array or structure of at most this many levels, its own included
abbrev pub AreCountedBelow : ℕ → List ℕ → Trees → Type 0
AreCountedBelow levels text ts = IsCounted (λ items. AreSpelled items ts) text (count_of ts)
    × (nests ts + 1 ≤ levels)

-- each value that a reader reads is spelled by the bytes that it takes
abbrev pub IsTaking : (X : Type 0) → (List ℕ → X → Type 0) → (Place → Read X) → Type 0
IsTaking X IsX read_at = (place : Place) (x : X × Place) → read_at place ≡ Ok x → Took X IsX place x

pub items_take : (levels : ℕ) (item_at : Place → Read Data) → IsTaking Data (IsValue levels) item_at
    → (n : ℕ) → IsTaking (List Data) (AreValues levels n) (items_read item_at n)
unfolding items_read
items_take levels item_at takes zero place x e =
    subst (λ (z : List Data × Place). Took (List Data) (AreValues levels 0) place z)
    (ok_is ([], place) x e) (record {
      text = [];
      takes = Takes-none place;
      spelled = (refl, least levels, refl);
    })
items_take levels item_at takes (suc n) place x e =
    let b = bind_ok (item_at place) (λ first. items_read item_at n first.1
    >>= λ others. done DataFault (first.0 ∷ others.0, others.1)) x e in
    let c = bind_ok (items_read item_at n b.0.1)
    (λ others. done DataFault (b.0.0 ∷ others.0, others.1)) x b.2 in
    let t = takes place b.0 b.1 in
    let u = items_take levels item_at takes n b.0.1 c.0 c.1 in
    let made : List Data × Place = (b.0.0 ∷ c.0.0, c.0.1) in
    subst (λ (z : List Data × Place). Took (List Data) (AreValues levels (suc n)) place z)
    (ok_is made x c.2) (record {
      text = t.text ++ u.text;
      takes = Takes-then place t.text b.0.1 u.text c.0.1 t.takes u.takes;
      spelled = (
        record {
          first = t.text;
          others = u.text;
          parts = refl {a = t.text ++ u.text};
          is_first = t.spelled.0;
          are_others = u.spelled.0;
        },
        omega (arith, t.spelled.1, u.spelled.1),
        omega (arith, u.spelled.2),
      );
    })

pub counted_takes : (levels : ℕ) (item_at : Place → Read Data)
    → IsTaking Data (IsValue levels) item_at → IsTaking Trees (AreCountedBelow (suc levels))
    (counted_at item_at)
unfolding counted_at
counted_takes levels item_at takes place x e =
    let b = bind_ok (length_at place) (λ count. guard (nat_le count.0 max_items) TooLong >> read_as
    (λ items. trees_of (all_trees items)) (items_read item_at count.0 count.1)) x e in
    let g = guard_ok (nat_le b.0.0 max_items) TooLong
    (read_as (λ items. trees_of (all_trees items)) (items_read item_at b.0.0 b.0.1)) x b.2 in
    let few : b.0.0 ≤ max_items = leb-true b.0.0 max_items g.0 in
    let t = length_takes place b.0 b.1 in
    let AreItems : List ℕ → Trees → Type 0 = λ text ts. AreSpelled text ts × (nests ts ≤ levels)
    × (count_of ts ≡ b.0.0) in
    let u = read_as_takes (AreValues levels b.0.0) AreItems (λ items. trees_of (all_trees items))
    (λ text ds f. f) b.0.1 (items_read item_at b.0.0 b.0.1) x
    (items_take levels item_at takes b.0.0 b.0.1) g.1 in
    let count : b.0.0 ≡ count_of x.0 = sym u.spelled.2 in
    let counted : IsCounted (λ items. AreSpelled items x.0) (t.text ++ u.text)
    (count_of x.0) = record {
      length_text = t.text;
      items = u.text;
      parts = refl {a = t.text ++ u.text};
      is_length = subst (λ (n : ℕ). IsLength t.text n) count t.spelled;
      few = subst (λ (n : ℕ). n ≤ max_items) count few;
      are_items = u.spelled.0;
    } in
    record {
      text = t.text ++ u.text;
      takes = Takes-then place t.text b.0.1 u.text x.1 t.takes
          u.takes;
      spelled = (counted, omega (arith, u.spelled.1));
    }

-- the bytes after any tag
body_takes : (levels tag : ℕ) (counted : Place → Read Trees)
    → IsTaking Trees (AreCountedBelow levels) counted → (place : Place) (x : Data × Place)
    → cond (eqb tag 0x01) (read_as Array (counted place))
    (cond (eqb tag 0x02) (read_as Structure (counted place)) (leaf_at tag place)) ≡ Ok x
    → Took Data (IsBody levels tag) place x
body_takes levels tag counted takes place x e =
    elim (chosen (eqb tag 0x01) _ _ _ e) [
      | inl h ↦ let is : tag ≡ 0x01 = eqb-true tag 0x01 h.0 in read_as_takes
          (AreCountedBelow levels) (IsBody levels tag) Array (λ text ts f. (is, f.0, f.1)) place
          (counted place) x (takes place) h.1
      | inr r ↦
          elim (chosen (eqb tag 0x02) _ _ _ r.1) [
            | inl h ↦ let is : tag ≡ 0x02 = eqb-true tag 0x02 h.0 in read_as_takes
                (AreCountedBelow levels) (IsBody levels tag) Structure (λ text ts f. (is, f.0, f.1))
                place (counted place) x (takes place) h.1
            | inr s ↦ leaf_takes levels tag place x s.1
          ]
    ]

pub value_takes : (levels : ℕ) (counted : Place → Read Trees)
    → IsTaking Trees (AreCountedBelow levels) counted
    → IsTaking Data (IsValue levels) (value_at counted)
unfolding value_at
value_takes levels counted takes place x e =
    let b = bind_ok (byte_at place) (λ tag. cond (eqb tag.0 0x01) (read_as Array (counted tag.1))
    (cond (eqb tag.0 0x02) (read_as Structure (counted tag.1)) (leaf_at tag.0 tag.1))) x e in
    let t = byte_takes place b.0 b.1 in
    let u = body_takes levels b.0.0 counted takes b.0.1 x b.2 in
    let parts : t.text ++ u.text ≡ tag_of (tree_of x.0) ∷ u.text =
    ap (λ (s : List ℕ). s ++ u.text) t.spelled ∙ ap (λ (tag : ℕ). tag ∷ u.text) u.spelled.0 in
    record {
      text = t.text ++ u.text;
      takes = Takes-then place t.text b.0.1 u.text x.1 t.takes u.takes;
      spelled = (
        record { contents = u.text; parts = parts; are_contents = u.spelled.1 },
        u.spelled.2,
      );
    }

-- the contents of an array or structure are spelled by the bytes taken
pub nested_takes : (levels : ℕ) → IsTaking Trees (AreCountedBelow levels) (nested_at levels)
unfolding nested_at
nested_takes zero place x e = absurd (too_deep x e)
  where
    too_deep : {X : Type 0} (y : X) → failed X TooDeep ≡ done DataFault y → ⊥
    too_deep y same = absurd cc
nested_takes (suc levels) place x e = counted_takes levels (value_at (nested_at levels))
    (value_takes levels (nested_at levels) (nested_takes levels)) place x e

-- the bytes after a value are no longer than those before it
pub rest_is_shorter : (levels : ℕ) (place : Place) (d : Data) (new : Place)
    → value_at (nested_at levels) place ≡ Ok (d, new) → length new.bytes ≤ length place.bytes
rest_is_shorter levels place d new e =
    let t = value_takes levels (nested_at levels) (nested_takes levels) place (d, new) e in
    length-Takes place t.text new t.takes
