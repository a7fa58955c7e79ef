-- What is spelled is read, whatever bytes follow.
use Rattle.std.proofs.Common.{◌≡◌, ℕ, zero, suc, ◌+◌, ◌-◌, ◌≤◌, Bool, true, false, cond, eqb, ◌&&◌, nat_lt, nat_le, List, [], ◌∷◌, ◌++◌, length, take, drop, Ok, refl, sym, ap, ap₂, subst, zero-add, ℤ, ◌∙◌, append_assoc, arith, add-one, inl, inr}
use Rattle.std.specs.Int.{Width, w8, w16, w32, w64, byte_len, from_be_bytes, cast_signed}
use Rattle.std.proofs.lemmas.Bool.{and_from, lt-ltb, le-ltb, le-leb}
use Rattle.std.proofs.lemmas.List.{take_at, drop_at, length-append}
use Rattle.wire_bytes.proofs.OutcomeLemmas.{done}
use Rattle.cosem_axdr.specs.Limits.{max_items, bytes_for}
use Rattle.wire_bytes.specs.Format.{items_read}
use Rattle.wire_bytes.specs.Reading.{read_as}
use Rattle.cosem_axdr.specs.Reading.{Place, Read, bytes_at, byte_at, length_at, string_at, unsigned_at, bits_at, fixed_at, leaf_at, counted_at, value_at, nested_at}
use Rattle.cosem_axdr.specs.Spelling.{IsLength, IsString, IsBits, IsCounted, IsUnsigned, IsSigned, IsFixed, AreContents, AreSpelled, Spells, tag_of}
use Rattle.cosem_axdr.specs.Tree.{Tree, Trees, count_of, nesting, nests, null, array, structure, boolean, bit_string, double_long, double_long_unsigned, octet_string, visible_string, utf8_string, integer, long, unsigned, long_unsigned, long64, long64_unsigned, enumerated, date_time, date, time, no_trees, tree}
use Rattle.cosem_axdr.specs.View.{data_of, list_of}
use Rattle.cosem_axdr.specs.declared.fault.DataFault.{DataFault}
use Rattle.cosem_axdr.specs.declared.value.Data.{Data}
use Rattle.cosem_axdr.specs.declared.value.Data.TheVariants.{Null, Array, Structure, Boolean, DoubleLong, Integer, Long, Long64, DateTime, Date, Time, BitString}
use Rattle.cosem_axdr.proofs.OneTree.{trees_of_list}
use Rattle.cosem_axdr.proofs.Taken.{Takes}

-- ---- one text in two parts

-- the place before the second part of a text
abbrev between : List ℕ → Place → Place
between text new = record { bytes = text ++ new.bytes; room = length text + new.room }

-- the place with these bytes and this number of bytes left to a Data
abbrev place_of : List ℕ → ℕ → Place
place_of bytes room = record { bytes = bytes; room = room }

-- the first part of a text is taken
Takes-first : (old : Place) (x y : List ℕ) (new : Place) → Takes old (x ++ y) new
    → Takes old x (between y new)
Takes-first old x y new t = record {
  bytes = t.bytes ∙ append_assoc x y new.bytes;
  room = omega (arith, t.room, length-append x y);
}

-- then the second part is taken
Takes-second : (y : List ℕ) (new : Place) → Takes (between y new) y new
Takes-second y new = record { bytes = refl; room = refl }

-- taking no bytes does not change the place
same_place : (old new : Place) → Takes old [] new → old ≡ new
same_place old new t = ap₂ (λ (bytes : List ℕ) (room : ℕ). place_of bytes room) t.bytes (t.room
    ∙ zero-add new.room)

-- a successful outcome: the value and the next place
abbrev read : {X : Type 0} → X → Place → Read X
read x place = done DataFault (x, place)

-- ---- bytes, lengths, strings, numbers

bytes_again : (n : ℕ) (text : List ℕ) (old new : Place) → Takes old text new → length text ≡ n
    → bytes_at n old ≡ Ok (text, new)
bytes_again n text old new t len =
    let total : length old.bytes ≡ length text + length new.bytes =
    ap (λ (bs : List ℕ). length bs) t.bytes ∙ length-append text new.bytes in
    let room : nat_le n old.room ≡ true = le-leb n old.room (omega (arith, t.room)) in
    let long : nat_le n (length old.bytes) ≡ true = le-leb n (length old.bytes) (omega arith) in
    let front : take n old.bytes ≡ text = ap (take n) t.bytes ∙ take_at text new.bytes n len in
    let back : drop n old.bytes ≡ new.bytes = ap (drop n) t.bytes ∙ drop_at text new.bytes n len in
    let left : old.room - n ≡ new.room = omega (arith, t.room) in
    rw (room, long, front, back, left) refl

byte_again : (byte : ℕ) (old new : Place) → Takes old (byte ∷ []) new → byte_at old ≡ Ok (byte, new)
byte_again byte old new t = rw (bytes_again 1 (byte ∷ []) old new t refl) refl

length_again : (text : List ℕ) (n : ℕ) (old new : Place) → Takes old text new → IsLength text n
    → length_at old ≡ Ok (n, new)
unfolding length_at
length_again [] n old new t none = absurd none
length_again (first ∷ bytes) n old new t (inl h) =
    let alone : Takes old (first ∷ []) new = subst (λ (bs : List ℕ). Takes old (first ∷ bs) new) h.1
    t in
    let short : nat_lt first 0x80 ≡ true = lt-ltb first 0x80 h.0 in
    rw (byte_again first old new alone, short) (ap (λ (m : ℕ). read m new) (sym h.2))
length_again (first ∷ bytes) n old new t (inr h) =
    let not_short : nat_lt first 0x80 ≡ false = le-ltb first 0x80 (omega (arith, h.0)) in
    let form : (nat_lt 0x80 first && nat_le first 0x84) ≡ true =
    and_from _ _ (lt-ltb 0x80 first (omega (arith, h.0))) (le-leb first 0x84 h.1) in
    let tag : byte_at old ≡ Ok (first, between bytes new) =
    byte_again first old (between bytes new) (Takes-first old (first ∷ []) bytes new t) in
    let those : bytes_at (first - 0x80) (between bytes new)
    ≡ Ok (bytes, new) = bytes_again (first - 0x80) bytes (between bytes new) new
    (Takes-second bytes new) (omega (arith, h.2)) in
    rw (tag, not_short, form, those) (ap (λ (m : ℕ). read m new) (sym h.3))

string_again : (text bytes : List ℕ) (old new : Place) → Takes old text new → IsString text bytes
    → string_at old ≡ Ok (bytes, new)
unfolding string_at
string_again text bytes old new t s =
    let both : Takes old (s.length_text ++ bytes) new =
    subst (λ (x : List ℕ). Takes old x new) s.parts t in
    rw (
      length_again s.length_text (length bytes) old (between bytes new)
          (Takes-first old s.length_text bytes new both) s.is_length,
      bytes_again (length bytes) bytes (between bytes new) new (Takes-second bytes new) refl,
    ) refl

unsigned_again : (w : Width) (text : List ℕ) (n : ℕ) (old new : Place) → Takes old text new
    → IsUnsigned w text n → unsigned_at w old ≡ Ok (n, new)
unsigned_again w text n old new t f = rw (bytes_again (byte_len w) text old new t f.0)
    (ap (λ (m : ℕ). read m new) (sym f.1))

bits_again : (text : List ℕ) (bits : ℕ) (bytes : List ℕ) (old new : Place) → Takes old text new
    → IsBits text bits bytes → bits_at old ≡ Ok (BitString bits bytes, new)
unfolding bits_at
bits_again text bits bytes old new t f =
    let both : Takes old (f.length_text ++ f.raw) new =
    subst (λ (x : List ℕ). Takes old x new) f.parts t in
    rw (
      length_again f.length_text bits old (between f.raw new)
          (Takes-first old f.length_text f.raw new both) f.is_length,
      bytes_again (bytes_for bits) f.raw (between f.raw new) new (Takes-second f.raw new) f.long,
    )
    (ap (λ (bs : List ℕ). read (BitString bits bs) new) (sym f.value))

-- ---- values

-- a leaf that is a signed number
signed_again : (w : Width) (make : ℤ → Data) (text : List ℕ) (z : ℤ) (old new : Place)
    → Takes old text new → IsSigned w text z → read_as (λ n. make (cast_signed w n))
    (unsigned_at w old) ≡ Ok (make z, new)
signed_again w make text z old new t f = rw (unsigned_again w text (from_be_bytes w text) old new t
    (f.0, refl)) (ap (λ (y : ℤ). read (make y) new) (sym f.1))

-- a leaf that is a fixed number of bytes
fixed_again : (n : ℕ) (make : List ℕ → Data) (text bytes : List ℕ) (old new : Place)
    → Takes old text new → IsFixed n text bytes → read_as make (bytes_at n old)
    ≡ Ok (make bytes, new)
fixed_again n make text bytes old new t f = rw (bytes_again n text old new t f.0)
    (ap (λ (bs : List ℕ). read (make bs) new) (sym f.1))

-- a reader reads counted items of less depth
abbrev IsCountedAgain : ℕ → (Place → Read Trees) → Type 0
IsCountedAgain levels counted = (ts : Trees) (text : List ℕ) (old new : Place) → Takes old text new
    → IsCounted (λ items. AreSpelled items ts) text (count_of ts) → nests ts + 1 ≤ levels
    → counted old ≡ Ok (ts, new)

-- a value after its tag
abbrev body_at : (Place → Read Trees) → ℕ → Place → Read Data
body_at counted tag place = cond (eqb tag 0x01) (read_as Array (counted place))
    (cond (eqb tag 0x02) (read_as Structure (counted place)) (leaf_at tag place))

body_again : (levels : ℕ) (counted : Place → Read Trees) → IsCountedAgain levels counted
    → (t : Tree) (text : List ℕ) (old new : Place) → Takes old text new → AreContents text t
    → nesting t ≤ levels → body_at counted (tag_of t) old ≡ Ok (data_of t, new)
unfolding leaf_at fixed_at
body_again levels counted again null text old new t f flat =
    let none : Takes old [] new = subst (λ (x : List ℕ). Takes old x new) f t in
    let same : old ≡ new = same_place old new none in
    ap (λ (p : Place). read Null p) same
body_again levels counted again (array ts) text old new t f flat =
    rw (again ts text old new t f flat) refl
body_again levels counted again (structure ts) text old new t f flat =
    rw (again ts text old new t f flat) refl
body_again levels counted again (boolean b) text old new t f flat =
    rw (byte_again f.0 old new (subst (λ (x : List ℕ). Takes old x new) f.1 t))
    (ap (λ (c : Bool). read (Boolean c) new) (sym f.2))
body_again levels counted again (bit_string bits bytes) text old new t f flat =
    bits_again text bits bytes old new t f
body_again levels counted again (double_long z) text old new t f flat =
    signed_again w32 DoubleLong text z old new t f
body_again levels counted again (double_long_unsigned n) text old new t f flat =
    rw (unsigned_again w32 text n old new t f) refl
body_again levels counted again (octet_string bytes) text old new t f flat =
    rw (string_again text bytes old new t f) refl
body_again levels counted again (visible_string bytes) text old new t f flat =
    rw (string_again text bytes old new t f) refl
body_again levels counted again (utf8_string bytes) text old new t f flat =
    rw (string_again text bytes old new t f) refl
body_again levels counted again (integer z) text old new t f flat =
    signed_again w8 Integer text z old new t f
body_again levels counted again (long z) text old new t f flat =
    signed_again w16 Long text z old new t f
body_again levels counted again (unsigned n) text old new t f flat =
    rw (unsigned_again w8 text n old new t f) refl
body_again levels counted again (long_unsigned n) text old new t f flat =
    rw (unsigned_again w16 text n old new t f) refl
body_again levels counted again (long64 z) text old new t f flat =
    signed_again w64 Long64 text z old new t f
body_again levels counted again (long64_unsigned n) text old new t f flat =
    rw (unsigned_again w64 text n old new t f) refl
body_again levels counted again (enumerated n) text old new t f flat =
    rw (unsigned_again w8 text n old new t f) refl
body_again levels counted again (date_time bytes) text old new t f flat =
    fixed_again 12 DateTime text bytes old new t f
body_again levels counted again (date bytes) text old new t f flat =
    fixed_again 5 Date text bytes old new t f
body_again levels counted again (time bytes) text old new t f flat =
    fixed_again 4 Time text bytes old new t f

-- a reader reads values nested at most to this depth
abbrev IsValueAgain : ℕ → (Place → Read Data) → Type 0
IsValueAgain levels item_at = (t : Tree) (text : List ℕ) (old new : Place) → Takes old text new
    → Spells text t → nesting t ≤ levels → item_at old ≡ Ok (data_of t, new)

pub value_again : (levels : ℕ) (counted : Place → Read Trees) → IsCountedAgain levels counted
    → IsValueAgain levels (value_at counted)
unfolding value_at
value_again levels counted again t text old new taken f flat =
    let both : Takes old (tag_of t ∷ f.contents) new =
    subst (λ (x : List ℕ). Takes old x new) f.parts taken in
    rw (byte_again (tag_of t) old (between f.contents new)
    (Takes-first old (tag_of t ∷ []) f.contents new both))
    (body_again levels counted again t f.contents (between f.contents new) new
    (Takes-second f.contents new) f.are_contents flat)

items_again : (levels : ℕ) (item_at : Place → Read Data) → IsValueAgain levels item_at
    → (ts : Trees) (text : List ℕ) (old new : Place) → Takes old text new → AreSpelled text ts
    → nests ts ≤ levels
    → items_read item_at (count_of ts) old ≡ Ok (list_of ts, new)
unfolding items_read
items_again levels item_at again no_trees text old new t f flat =
    ap (λ (p : Place). read [] p) (same_place old new (subst (λ (x : List ℕ). Takes old x new) f t))
items_again levels item_at again (tree v ts) text old new t f flat =
    let both : Takes old (f.first ++ f.others) new =
    subst (λ (x : List ℕ). Takes old x new) f.parts t in
    let one = again v f.first old (between f.others new) (Takes-first old f.first f.others new both)
    f.is_first (omega arith) in
    let rest = items_again levels item_at again ts f.others (between f.others new) new
    (Takes-second f.others new) f.are_others (omega arith) in
    rw (add-one, one, rest) refl

counted_again : (levels : ℕ) (item_at : Place → Read Data) → IsValueAgain levels item_at
    → IsCountedAgain (suc levels) (counted_at item_at)
unfolding counted_at
counted_again levels item_at again ts text old new t f flat =
    let both : Takes old (f.length_text ++ f.items) new =
    subst (λ (x : List ℕ). Takes old x new) f.parts t in
    let count = length_again f.length_text (count_of ts) old (between f.items new)
    (Takes-first old f.length_text f.items new both) f.is_length in
    let few : nat_le (count_of ts) max_items ≡ true = le-leb (count_of ts) max_items f.few in
    let items = items_again levels item_at again ts f.items (between f.items new) new
    (Takes-second f.items new) f.are_items (omega arith) in
    rw (count, few, items) (ap (λ (us : Trees). read us new) (trees_of_list ts))

pub nested_again : (levels : ℕ) → IsCountedAgain levels (nested_at levels)
unfolding nested_at
nested_again zero ts text old new t f flat = absurd (omega arith)
nested_again (suc levels) ts text old new t f flat = counted_again levels
    (value_at (nested_at levels)) (value_again levels (nested_at levels) (nested_again levels)) ts
    text old new t f flat
