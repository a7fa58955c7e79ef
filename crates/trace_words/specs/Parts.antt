-- The parts of a line as formats of words.
--     Part                     a format of words, with the faults of a line
--     word .. data_part        one word, by its value; a number, a flag, a Data
--     items_to_end             items up to the end of the line
--     counted_items            a number of items, and the items
--     only_if                  a part of which only some values are written
--     Forms, one_of            a choice by the next word
--     labelled_part            a first word, and a part
--     line_read                the value of a whole line
use Rattle.std.specs.Prelude.{◌≡◌, ℕ, ◌≤◌, Bool, nat_eq, decimal, List, [], ◌∷◌, ◌++◌, length}
use Rattle.std.specs.Prelude.{Result, Ok}
use Rattle.std.specs.Cmp.Lexicographic.{pointwise}
use Rattle.wire_bytes.specs.Choice.{Choice, Parts, choice_by}
use Rattle.wire_bytes.specs.Format.{Format, IsTagged, items_read, AreItems}
use Rattle.wire_bytes.specs.Outcome.{◌>>=◌}
use Rattle.cosem_axdr.specs.declared.value.Data.{Data}
use Rattle.trace_words.specs.Labels.{words_after}
use Rattle.trace_words.specs.Reading.{number_in, flag_in, data_in, next_as}
use Rattle.trace_words.specs.Rows.{Word, Row, Read, if_last, all_at}
use Rattle.trace_words.specs.Writing.{IsHeld, flag_number, data_word, all_words}
use Rattle.trace_words.specs.declared.fault.RowFault.{RowFault}
use Rattle.trace_words.specs.declared.fault.RowFault.TheVariants.{Wrong}

-- a format of the words of a line
abbrev pub Part : Type 0 → Type 1
Part A = Format Word RowFault A

-- the words of a value, before other words
abbrev pub words_before : {A : Type 0} → Part A → A → Row → Row
words_before part a words = part.text a ++ words

-- ---- one word

-- one word, by how its value is read and written, and which values are read back
abbrev pub word : {A : Type 0} → (Word → Result A RowFault) → (A → Word) → (A → Type 0) → Part A
word value_in word_of Fits = record {
  read = next_as value_in;
  text = λ a. word_of a ∷ [];
  Fits = Fits;
  Spells = λ a words. Fits a × (words ≡ word_of a ∷ []);
}

-- a decimal number up to a limit
abbrev pub number_part : ℕ → Part ℕ
number_part limit = word (number_in limit) decimal (λ n. n ≤ limit)

-- 1 for true, 0 for false
abbrev pub flag_part : Part Bool
flag_part = word flag_in (λ flag. decimal (flag_number flag)) (λ flag. Unit {0})

-- a Data in hexadecimal
abbrev pub data_part : Part Data
data_part = word data_in data_word IsHeld

-- ---- items

-- whether each of the items has a property
abbrev pub Each : {A : Type 0} → (A → Type 0) → List A → Type 0
Each Holds [] = Unit {0}
Each Holds (a ∷ items) = Holds a × Each Holds items

-- what is read of a part whose first word is given
abbrev pub after_first : {A : Type 0} → Part A → Word → Row → Read A
after_first part first others = part.read (first ∷ others)

-- items up to the end of the line, at most this number of them
abbrev pub items_to_end : {A : Type 0} → ℕ → Part A → Part (List A)
items_to_end most item = record {
  read = λ words. all_at (after_first item) most words >>= λ items. Ok (items, []);
  text = all_words (words_before item);
  Fits = λ items. (length items ≤ most) × Each item.Fits items;
  Spells = λ items words. (length items ≤ most) × AreItems item.Spells items words;
}

-- the number of items, at most this number, and the items
abbrev pub counted_items : {A : Type 0} → ℕ → Part A → Part (List A)
counted_items most item = record {
  read = λ words.
      (number_part most).read words >>= λ count. items_read item.read count.0 count.1;
  text = λ items. decimal (length items) ∷ all_words (words_before item) items;
  Fits = λ items. (length items ≤ most) × Each item.Fits items;
  Spells = λ items words. (others : Row) × (words ≡ decimal (length items) ∷ others)
      × (length items ≤ most) × AreItems item.Spells items others;
}

-- ---- parts

-- a part of which only the values with a property are read back
abbrev pub only_if : {A : Type 0} → (A → Type 0) → Part A → Part A
only_if Holds part = record {
  read = part.read;
  text = part.text;
  Fits = λ a. Holds a × part.Fits a;
  Spells = λ a words. Holds a × part.Spells a words;
}

-- whether two words are the same
abbrev pub same_word : Word → Word → Bool
same_word one other = pointwise nat_eq one other

-- what may follow, by the next word
abbrev pub Forms : Type 0 → Type 1
Forms A = Choice Word RowFault A

-- the part that a choice by the next word states
abbrev pub one_of : {A : Type 0} → (c : Forms A) → (A → Parts c) → Part A
one_of c parts = choice_by same_word Wrong c parts

-- ---- lines

-- a first word, and a part
abbrev pub labelled_part : {A : Type 0} → Word → Part A → Part A
labelled_part name part = record {
  read = λ words. words_after name words >>= λ others. part.read others.1;
  text = λ a. name ∷ part.text a;
  Fits = part.Fits;
  Spells = λ a words. IsTagged name (part.Spells a) words;
}

-- the value of a line, if no word is left after it
abbrev pub line_read : {A : Type 0} → Part A → Row → Result A RowFault
line_read part row = part.read row >>= λ a. if_last a.1 a.0
