-- The laws of the parts of a line, and that each part made from others has them.
--     Anything, Nothing            what may follow a part
--     IsExact                      the laws of a part
--     word_exact .. data_exact     single words
--     iso_exact .. both_exact      another value; no words; one part, and then another
--     to_end_exact, counted_exact  items
--     one_of_exact                 a choice by the next word
--     IsWithin                     a choice that has all parts of another
--     line_back, line_again        whole lines
use Rattle.std.proofs.Common.{◌≡◌, ℕ, zero, suc, ◌+◌, ◌*◌, ◌≤◌, Bool, true, false, not, List, []}
use Rattle.std.proofs.Common.{◌∷◌, ◌++◌, length, Result, Ok, refl, sym, ap, ap₂, subst, ◌∙◌}
use Rattle.std.proofs.Common.{append_assoc, append-nil, length-append, arith, decimal, inl, inr}
use Rattle.std.proofs.lemmas.Bool.{and_parts, or_right}
use Rattle.std.proofs.Math.Nat.{suc-mul}
use Rattle.std.specs.List.{list_all}
use Rattle.wire_bytes.specs.Choice.{otherwise, on, under, Parts, value_of, keyed_read, next_read}
use Rattle.wire_bytes.specs.Choice.{keyed_text, KeyedFits, has_key, is_distinct}
use Rattle.wire_bytes.specs.Format.{iso, empty, ◌&◌, items_read}
use Rattle.wire_bytes.specs.Reading.{read_as}
use Rattle.wire_bytes.proofs.OutcomeLemmas.{done, ok_is, bind_ok, chosen}
use Rattle.text_lines.specs.Lines.{is_row}
use Rattle.text_lines.specs.Words.{is_word}
use Rattle.trace_words.proofs.Blanks.{Stands, blanked-append}
use Rattle.trace_words.proofs.ShortRows.{HasWords, no_words, word_on, words_in, number_short}
use Rattle.trace_words.proofs.ShortRows.{flag_short, data_short}
use Rattle.trace_words.proofs.WordLaws.{AreWords, more, number_word_again, number_is_word}
use Rattle.trace_words.proofs.WordLaws.{flag_again, flag_is_word, data_word_again, data_is_word}
use Rattle.trace_words.proofs.WordLaws.{same_bytes}
use Rattle.trace_words.proofs.WordsBack.{IsWrittenBack, next_back, number_back, flag_back, data_back}
use Rattle.trace_words.proofs.WordsBack.{same_is, ended_back, all_back}
use Rattle.trace_words.specs.Parts.{Part, words_before, word, number_part, flag_part, data_part, items_to_end}
use Rattle.trace_words.specs.Parts.{counted_items, Each, after_first, only_if, same_word, Forms, one_of, line_read}
use Rattle.trace_words.specs.Reading.{number_in}
use Rattle.trace_words.specs.Rows.{Word, Row, if_last, all_at}
use Rattle.trace_words.specs.Writing.{all_words, words_after_blanks}
use Rattle.trace_words.specs.declared.fault.RowFault.{RowFault}
use Rattle.trace_words.specs.declared.fault.RowFault.TheVariants.{Wrong}

-- what may follow: any words, or none
abbrev pub Anything : Row → Type 0
Anything rest = Unit {0}

abbrev pub Nothing : Row → Type 0
Nothing rest = rest ≡ []

-- The laws of a part. What is read as a value is the text of that value; the text of a value that
-- fits is read as it, is made of words that a line can hold, and has at most this many bytes.
pub record IsExact {A : Type 0} (MayFollow : Row → Type 0) (most : ℕ) (part : Part A) : Type 0 where
  pub back : (row : Row) (x : A × Row) → part.read row ≡ Ok x → row ≡ part.text x.0 ++ x.1
  pub again : (a : A) (rest : Row) → part.Fits a → MayFollow rest
      → part.read (part.text a ++ rest) ≡ Ok (a, rest)
  pub are_words : (a : A) → part.Fits a → AreWords (part.text a)
  pub short : (a : A) → part.Fits a → HasWords most (part.text a)

-- ---- words one after the other

append_words : (a b : Row) → AreWords a → AreWords b → AreWords (a ++ b)
append_words [] b one two = two
append_words (first ∷ a) b one two =
    let parts = and_parts (is_word first) (list_all is_word a) one in
    more first (a ++ b) parts.0 (append_words a b parts.1 two)

append_short : (m n : ℕ) (a b : Row) → HasWords m a → HasWords n b → HasWords (m + n) (a ++ b)
append_short m n a b one two =
    let bytes = ap (λ (bytes : List ℕ). length bytes) (blanked-append a b) in
    record {
      short = omega (
        arith,
        bytes,
        length-append (words_after_blanks a) (words_after_blanks b),
        one.short,
        two.short,
      );
    }

-- the words of a part before others are those of the part, followed by the others
pub before_stands : {A : Type 0} (part : Part A) → Stands A (words_before part)
before_stands part a words = blanked-append (part.text a) words
    ∙ ap (λ (row : Row). words_after_blanks row ++ words_after_blanks words)
    (sym (append-nil (part.text a)))

-- ---- single words

pub word_exact : {A : Type 0} {MayFollow : Row → Type 0} (long : ℕ)
    (value_in : Word → Result A RowFault) (word_of : A → Word) (Fits : A → Type 0)
    → IsWrittenBack A value_in word_of
    → ((a : A) → Fits a → value_in (word_of a) ≡ Ok a)
    → ((a : A) → Fits a → is_word (word_of a) ≡ true)
    → ((a : A) → Fits a → length (word_of a) ≤ long)
    → IsExact MayFollow (1 + long + 0) (word value_in word_of Fits)
word_exact {A = A} long value_in word_of Fits back again are short = record {
  back = λ row x e. next_back A value_in word_of back row x.1 x.0 e;
  again = λ a rest fit follows. rw (again a fit) refl;
  are_words = λ a fit. more (word_of a) [] (are a fit) refl;
  short = λ a fit. word_on long 0 (word_of a) [] (short a fit) no_words;
}

pub number_exact : {MayFollow : Row → Type 0} (limit : ℕ) → limit ≤ 4294967295
    → IsExact MayFollow 11 (number_part limit)
number_exact limit small =
    word_exact 10 (number_in limit) decimal (λ n. n ≤ limit) (number_back limit (omega arith))
    (λ n le. number_word_again limit n le (omega arith)) (λ n le. number_is_word n (omega arith))
    (λ n le. number_short n (omega arith))

pub flag_exact : {MayFollow : Row → Type 0} → IsExact MayFollow 11 flag_part
flag_exact = word_exact 10 _ _ _ flag_back (λ flag fit. flag_again flag)
    (λ flag fit. flag_is_word flag) (λ flag fit. flag_short flag)

pub data_exact : {MayFollow : Row → Type 0} → IsExact MayFollow 16385 data_part
data_exact = word_exact 16384 _ _ _ data_back data_word_again data_is_word data_short

-- ---- parts made from others

-- with a greater bound
pub within_bound : {A : Type 0} {MayFollow : Row → Type 0} {less : ℕ} {part : Part A} (most : ℕ)
    → less ≤ most → IsExact MayFollow less part → IsExact MayFollow most part
within_bound {less = less} {part = part} most le exact = record {
  back = exact.back;
  again = exact.again;
  are_words = exact.are_words;
  short = λ a fit. words_in less most (part.text a) (exact.short a fit) le;
}

pub iso_exact : {A B : Type 0} {MayFollow : Row → Type 0} {most : ℕ} (to : A → B) (from : B → A)
    (part : Part A) → ((b : B) → to (from b) ≡ b) → ((a : A) → from (to a) ≡ a)
    → IsExact MayFollow most part → IsExact MayFollow most (iso to from part)
iso_exact {B = B} to from part there back exact = record {
  back = λ row x e.
      let a = bind_ok (part.read row) (λ a. done RowFault (to a.0, a.1)) x e in
      let is = ok_is (to a.0.0, a.0.1) x a.2 in
      exact.back row a.0 a.1
      ∙ ap₂ (λ a rest. part.text a ++ rest)
      (sym (back a.0.0) ∙ ap (λ (y : B × Row). from y.0) is) (ap (λ (y : B × Row). y.1) is);
  again = λ b rest fit follows.
      rw (exact.again (from b) rest fit follows)
      (ap (λ (c : B). done RowFault (c, rest)) (there b));
  are_words = λ b fit. exact.are_words (from b) fit;
  short = λ b fit. exact.short (from b) fit;
}

pub empty_exact : {MayFollow : Row → Type 0} → IsExact MayFollow 0 (empty {T = Word} {F = RowFault})
empty_exact = record {
  back = λ row x e. ap (λ (y : Unit {0} × Row). y.1) (ok_is {F = RowFault} (tt {0}, row) x e);
  again = λ nothing rest fit follows. refl;
  are_words = λ nothing fit. refl;
  short = λ nothing fit. no_words;
}

pub both_exact : {A B : Type 0} {MayFollow : Row → Type 0} {m n : ℕ} (first : Part A)
    (second : Part B) → IsExact Anything m first → IsExact MayFollow n second
    → IsExact MayFollow (m + n) (first & second)
both_exact {A = A} {B = B} {m = m} {n = n} first second one two = record {
  back = λ row x e.
      let a = bind_ok (first.read row) (λ a. read_as (λ b. (a.0, b)) (second.read a.1)) x e in
      let b = bind_ok (second.read a.0.1) (λ b. done RowFault ((a.0.0, b.0), b.1)) x a.2 in
      one.back row a.0 a.1
      ∙ ap (λ (rest : Row). first.text a.0.0 ++ rest) (two.back a.0.1 b.0 b.1)
      ∙ sym (append_assoc (first.text a.0.0) (second.text b.0.0) b.0.1)
      ∙ ap (λ (y : (A × B) × Row). (first.text y.0.0 ++ second.text y.0.1) ++ y.1)
      (ok_is ((a.0.0, b.0.0), b.0.1) x b.2);
  again = λ both rest fit follows.
      rw (
        append_assoc (first.text both.0) (second.text both.1) rest,
        one.again both.0 (second.text both.1 ++ rest) fit.0 tt,
        two.again both.1 rest fit.1 follows,
      ) refl;
  are_words = λ both fit. append_words (first.text both.0) (second.text both.1)
      (one.are_words both.0 fit.0) (two.are_words both.1 fit.1);
  short = λ both fit. append_short m n (first.text both.0) (second.text both.1)
      (one.short both.0 fit.0) (two.short both.1 fit.1);
}

-- ---- items

module _ {A : Type 0} {m : ℕ} (item : Part A) (exact : IsExact Anything m item) where
  items_are_words : (items : List A) → Each item.Fits items
      → AreWords (all_words (words_before item) items)
  unfolding all_words
  items_are_words [] fit = refl
  items_are_words (x ∷ xs) fit =
      append_words (item.text x) (all_words (words_before item) xs)
      (exact.are_words x fit.0)
      (items_are_words xs fit.1)

  items_short : (items : List A) → Each item.Fits items
      → HasWords (length items * m) (all_words (words_before item) items)
  unfolding all_words
  items_short [] fit = words_in 0 (0 * m) [] no_words (omega arith)
  items_short (x ∷ xs) fit =
      words_in (m + length xs * m) (suc (length xs) * m)
      (item.text x ++ all_words (words_before item) xs)
      (append_short m (length xs * m) (item.text x) (all_words (words_before item) xs)
      (exact.short x fit.0)
      (items_short xs fit.1)) (omega (arith, suc-mul (length xs) m))

  -- each item has a first word, so that the end of the line is the end of the items
  abbrev pub HasFirst : Type 0
  HasFirst = (a : A) → (first : Word) × (others : Row) × (item.text a ≡ first ∷ others)

  all_again : HasFirst → (items : List A) (room : ℕ) → length items ≤ room → Each item.Fits items
      → all_at (after_first item) room (all_words (words_before item) items)
      ≡ Ok items
  unfolding all_at all_words
  all_again first [] zero le fit = refl
  all_again first [] (suc room) le fit = refl
  all_again first (x ∷ xs) zero le fit = absurd (omega arith)
  all_again first (x ∷ xs) (suc room) le fit =
      let head = first x in
      let rest = all_words (words_before item) xs in
      let read : item.read (head.0 ∷ head.1 ++ rest) ≡ Ok (x, rest) =
      ap (λ (words : Row). item.read (words ++ rest)) (sym head.2)
      ∙ exact.again x rest fit.0 tt in
      rw (head.2, read, all_again first xs room (omega arith) fit.1) refl

  pub to_end_exact : (most bound : ℕ) → ((n : ℕ) → n ≤ most → n * m ≤ bound) → HasFirst
      → IsExact Nothing bound (items_to_end most item)
  to_end_exact most bound within first = record {
    back = λ row x e.
        let items = bind_ok (all_at (after_first item) most row)
        (λ items. done RowFault (items, [])) x e in
        all_back A (after_first item) (words_before item)
        (λ word words y rest read. exact.back (word ∷ words) (y, rest) read) most row items.0
        items.1
        ∙ sym (append-nil (all_words (words_before item) items.0))
        ∙ ap (λ (y : List A × Row). all_words (words_before item) y.0 ++ y.1)
        (ok_is (items.0, []) x items.2);
    again = λ items rest fit none.
        rw (
          none,
          append-nil (all_words (words_before item) items),
          all_again first items most fit.0 fit.1,
        ) refl;
    are_words = λ items fit. items_are_words items fit.1;
    short = λ items fit. words_in (length items * m) bound (all_words (words_before item) items)
        (items_short items fit.1) (within (length items) fit.0);
  }

  items_again : (items : List A) (rest : Row) → Each item.Fits items
      → items_read item.read (length items) (all_words (words_before item) items ++ rest)
      ≡ Ok (items, rest)
  unfolding items_read all_words
  items_again [] rest fit = refl
  items_again (x ∷ xs) rest fit =
      let others = all_words (words_before item) xs in
      rw (
        append_assoc (item.text x) others rest,
        exact.again x (others ++ rest) fit.0 tt,
        items_again xs rest fit.1,
      ) refl

  items_back : (n : ℕ) (row : Row) (x : List A × Row) → items_read item.read n row ≡ Ok x
      → (row ≡ all_words (words_before item) x.0 ++ x.1) × (length x.0 ≡ n)
  unfolding items_read all_words
  items_back zero row x e =
      let is = ok_is {F = RowFault} ([], row) x e in (
        ap (λ (y : List A × Row). all_words (words_before item) y.0 ++ y.1) is,
        sym (ap (λ (y : List A × Row). length y.0) is),
      )
  items_back (suc n) row x e =
      let first = bind_ok (item.read row) _ x e in
      let others = bind_ok (items_read item.read n first.0.1) _ x first.2 in
      let back = items_back n first.0.1 others.0 others.1 in
      let is = ok_is (first.0.0 ∷ others.0.0, others.0.1) x others.2 in (
        exact.back row first.0 first.1
            ∙ ap (λ (rest : Row). item.text first.0.0 ++ rest) back.0
            ∙ sym (append_assoc (item.text first.0.0) (all_words (words_before item) others.0.0)
            others.0.1)
            ∙ ap (λ (y : List A × Row). all_words (words_before item) y.0 ++ y.1) is,
        sym (ap (λ (y : List A × Row). length y.0) is) ∙ ap suc back.1,
      )

  pub counted_exact : {MayFollow : Row → Type 0} (most bound : ℕ) → most ≤ 4294967295
      → ((n : ℕ) → n ≤ most → 11 + n * m ≤ bound) → IsExact MayFollow bound (counted_items most
      item)
  counted_exact most bound small within = record {
    back = λ row x e.
        let count = bind_ok ((number_part most).read row) _ x e in
        let items = items_back count.0.0 count.0.1 x count.2 in
        (number_exact {MayFollow = Anything} most small).back row count.0 count.1
        ∙ ap₂ (λ (n : ℕ) (rest : Row). decimal n ∷ rest) (sym items.1) items.0;
    again = λ items rest fit follows.
        rw (
          number_word_again most (length items) fit.0 (omega arith),
          items_again items rest fit.1,
        ) refl;
    are_words = λ items fit. more (decimal (length items)) (all_words (words_before item) items)
        (number_is_word (length items) (omega (arith, fit.0))) (items_are_words items fit.1);
    short = λ items fit.
        words_in (1 + 10 + length items * m) bound (decimal (length items)
        ∷ all_words (words_before item) items)
        (word_on 10 (length items * m) (decimal (length items))
        (all_words (words_before item) items)
        (number_short (length items) (omega (arith, fit.0))) (items_short items fit.1))
        (within (length items) fit.0);
  }

-- ---- a choice by the next word

-- each part of a choice is exact, and each of its first words is a word of at most 20 bytes; a
-- choice in a choice is not used in a line
abbrev pub AreExact : {A : Type 0} → (Row → Type 0) → ℕ → Forms A → Type 0
AreExact MayFollow most (otherwise fault) = Unit {0}
AreExact MayFollow most (on key part make others) = IsExact MayFollow most part
    × (is_word key ≡ true) × (length key ≤ 20) × AreExact MayFollow most others
AreExact MayFollow most (under key missing inner others) = ⊥

-- the text of a part has a first word
pub choice_first : {A : Type 0} (c : Forms A) (p : Parts c)
    → (first : Word) × (words : Row) × (keyed_text c p ≡ first ∷ words)
choice_first (otherwise fault) p = absurd p
choice_first (on key part make others) (inl x) = (key, part.text x, refl)
choice_first (on key part make others) (inr p) = choice_first others p
choice_first (under key missing inner others) (inl p) = (key, keyed_text inner p, refl)
choice_first (under key missing inner others) (inr p) = choice_first others p

heads_are : (a b : Word) (x y : Row) → a ∷ x ≡ b ∷ y → (a ≡ b) × (x ≡ y)
heads_are a b x y e = (cc, cc)

module _ {A : Type 0} (MayFollow : Row → Type 0) (most : ℕ) where
  keyed_back : (c : Forms A) → AreExact MayFollow most c → (first : Word) (rest : Row) (x : A × Row)
      → keyed_read same_word c first rest ≡ Ok x
      → (p : Parts c) × (value_of c p ≡ x.0) × (first ∷ rest ≡ keyed_text c p ++ x.1)
  keyed_back (otherwise fault) exact first rest x e = absurd cc
  keyed_back (under key missing inner others) exact first rest x e = absurd exact
  keyed_back (on key part make others) exact first rest x e =
      elim (chosen (same_word first key) _ _ _ e) [
        | inl here ↦
            let b = bind_ok (part.read rest) (λ y. done RowFault (make y.0, y.1)) x here.1 in
            let is = ok_is (make b.0.0, b.0.1) x b.2 in (
              inl b.0.0,
              ap (λ (y : A × Row). y.0) is,
              ap₂ (λ (w : Word) (words : Row). w ∷ words) (same_is first key here.0)
                  (exact.0.back rest b.0 b.1)
                  ∙ ap (λ (y : A × Row). key ∷ part.text b.0.0 ++ y.1) is,
            )
        | inr other ↦
            let b = keyed_back others exact.3 first rest x other.1 in (inr b.0, b.1, b.2)
      ]

  -- the first word of a part is a key of the choice
  first_is_key : (c : Forms A) → AreExact MayFollow most c → (p : Parts c) (first : Word)
      (words : Row) → keyed_text c p ≡ first ∷ words → has_key same_word first c ≡ true
  first_is_key (otherwise fault) exact p first words is = absurd p
  first_is_key (under key missing inner others) exact p first words is = absurd exact
  first_is_key (on key part make others) exact (inl x) first words is =
      rw (sym (heads_are key first (part.text x) words is).0, same_bytes key) refl
  first_is_key (on key part make others) exact (inr p) first words is =
      or_right (same_word first key) _ (first_is_key others exact.3 p first words is)

  -- the first word of another part is not this key
  other_key : (key first : Word) (others : Forms A) → not (has_key same_word key others) ≡ true
      → has_key same_word first others ≡ true → same_word first key ≡ false
  other_key key first others none has = decide (same_word first key) refl
    where
      clash : (b : Bool) → not b ≡ true → b ≡ true → ⊥
      clash true n h = cc
      clash false n h = cc

      decide : (b : Bool) → same_word first key ≡ b → b ≡ false
      decide false e = refl
      decide true e = absurd (clash (has_key same_word key others) none
          (subst (λ k. has_key same_word k others ≡ true) (same_is first key e) has))

  keyed_again : (c : Forms A) → is_distinct same_word c ≡ true → AreExact MayFollow most c
      → (p : Parts c) (first : Word) (words rest : Row) → KeyedFits c p → MayFollow rest
      → keyed_text c p ≡ first ∷ words
      → keyed_read same_word c first (words ++ rest) ≡ Ok (value_of c p, rest)
  keyed_again (otherwise fault) distinct exact p first words rest fit follows is = absurd p
  keyed_again (under key missing inner others) distinct exact p first words rest fit follows is =
      absurd exact
  keyed_again (on key part make others) distinct exact (inl x) first words rest fit follows is =
      let same = heads_are key first (part.text x) words is in
      rw (sym same.0, sym same.1, same_bytes key, exact.0.again x rest fit follows) refl
  keyed_again (on key part make others) distinct exact (inr p) first words rest fit follows is =
      let d = and_parts _ _ distinct in
      rw (other_key key first others d.0 (first_is_key others exact.3 p first words is))
      (keyed_again others d.1 exact.3 p first words rest fit follows is)

  keyed_are_words : (c : Forms A) → AreExact MayFollow most c → (p : Parts c) → KeyedFits c p
      → AreWords (keyed_text c p)
  keyed_are_words (otherwise fault) exact p fit = absurd p
  keyed_are_words (under key missing inner others) exact p fit = absurd exact
  keyed_are_words (on key part make others) exact (inl x) fit =
      more key (part.text x) exact.1 (exact.0.are_words x fit)
  keyed_are_words (on key part make others) exact (inr p) fit = keyed_are_words others exact.3 p fit

  keyed_short : (c : Forms A) → AreExact MayFollow most c → (p : Parts c) → KeyedFits c p
      → HasWords (1 + 20 + most) (keyed_text c p)
  keyed_short (otherwise fault) exact p fit = absurd p
  keyed_short (under key missing inner others) exact p fit = absurd exact
  keyed_short (on key part make others) exact (inl x) fit =
      word_on 20 most key (part.text x) exact.2 (exact.0.short x fit)
  keyed_short (on key part make others) exact (inr p) fit = keyed_short others exact.3 p fit

  -- a choice of exact parts with different first words, whose values are taken apart as they are
  -- made; only the values with a property are made of their parts
  pub one_of_exact : (Holds : A → Type 0) (c : Forms A) (parts : A → Parts c)
      → ((a : A) → Holds a → value_of c (parts a) ≡ a)
      → ((p : Parts c) → parts (value_of c p) ≡ p) → is_distinct same_word c ≡ true
      → AreExact MayFollow most c
      → IsExact MayFollow (1 + 20 + most) (only_if Holds (one_of c parts))
  one_of_exact Holds c parts there back distinct exact = record {
    back = read_back;
    again = λ a rest fit follows.
        let first = choice_first c (parts a) in
        rw first.2 (keyed_again c distinct exact (parts a) first.0 first.1 rest fit.1 follows
        first.2 ∙ ap (λ (b : A). done RowFault (b, rest)) (there a fit.0));
    are_words = λ a fit. keyed_are_words c exact (parts a) fit.1;
    short = λ a fit. keyed_short c exact (parts a) fit.1;
  }
    where
      read_back : (row : Row) (x : A × Row) → next_read same_word Wrong c row ≡ Ok x
          → row ≡ keyed_text c (parts x.0) ++ x.1
      read_back [] x e = absurd cc
      read_back (first ∷ rest) x e =
          let b = keyed_back c exact first rest x e in
          b.2 ∙ ap (λ (p : Parts c). keyed_text c p ++ x.1) (sym (back b.0) ∙ ap parts b.1)

-- ---- choices that have further parts

-- what is read by one choice is read by another
pub record IsWithin {A : Type 0} (c d : Forms A) : Type 0 where
  pub read : (first : Word) (rest : Row) (x : A × Row) → keyed_read same_word c first rest ≡ Ok x
      → keyed_read same_word d first rest ≡ Ok x

pub none_within : {A : Type 0} (c : Forms A) → IsWithin (otherwise Wrong) c
none_within c = record { read = λ first rest x e. absurd cc }

pub more_within : {A X : Type 0} (key : Word) (part : Part X) (make : X → A) (c d : Forms A)
    → IsWithin c d → IsWithin (on key part make c) (on key part make d)
more_within key part make c d within = record {
  read = λ first rest x e. elim (chosen (same_word first key) _ _ _ e) [
    | inl here ↦ rw here.0 here.1
    | inr other ↦ rw other.0 (within.read first rest x other.1)
  ];
}

pub next_within : {A : Type 0} (c d : Forms A) → IsWithin c d → (row : Row) (x : A × Row)
    → next_read same_word Wrong c row ≡ Ok x → next_read same_word Wrong d row ≡ Ok x
next_within c d within [] x e = absurd cc
next_within c d within (first ∷ rest) x e = within.read first rest x e

-- ---- whole lines

pub line_back : {A : Type 0} {most : ℕ} (part : Part A) → IsExact Nothing most part → (row : Row)
    (a : A) → line_read part row ≡ Ok a → part.text a ≡ row
line_back {A = A} part exact row a e =
    let x = bind_ok (part.read row) (λ x. if_last x.1 x.0) a e in
    let end = ended_back A x.0.1 x.0.0 a x.2 in
    sym (exact.back row x.0 x.1 ∙ ap₂ (λ (b : A) (rest : Row). part.text b ++ rest) end.1 end.0
    ∙ append-nil (part.text a))

pub line_is_row : {A : Type 0} {most : ℕ} (part : Part A) → IsExact Nothing most part → (a : A)
    → part.Fits a → (first : Word) × (words : Row) × (part.text a ≡ first ∷ words)
    → is_row (part.text a) ≡ true
line_is_row part exact a fit first =
    let are : AreWords (first.0 ∷ first.1) = subst AreWords first.2 (exact.are_words a fit) in
    rw first.2 are

pub line_again : {A : Type 0} {most : ℕ} (part : Part A) → IsExact Nothing most part → (a : A)
    → part.Fits a → line_read part (part.text a) ≡ Ok a
line_again part exact a fit =
    let read : part.read (part.text a) ≡ Ok (a, []) =
    ap part.read (sym (append-nil (part.text a))) ∙ exact.again a [] fit refl in
    rw read refl
