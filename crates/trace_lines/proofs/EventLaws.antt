-- The laws of the lines of events, by those of their format, and the words of these lines.
use Rattle.std.proofs.Common.{◌≡◌, ℕ, suc, ◌≤◌, true, nat_lt, List, [], ◌∷◌, length, map, Option, Some}
use Rattle.std.proofs.Common.{None, Ok, refl, sym, ap, ap₂, ◌∙◌, arith, codes, decimal, inl, inr}
use Rattle.std.specs.List.{list_all, zip, AllByRecursion}
use Rattle.std.specs.Prelude.{IfSome}
use Rattle.hex.specs.Hex.{encode_upper, IsBytes}
use Rattle.wire_bytes.specs.Choice.{Parts, value_of, next_read, keyed_text}
use Rattle.wire_bytes.proofs.OutcomeLemmas.{bind_ok}
use Rattle.cosem_axdr.specs.Spelling.{text}
use Rattle.cosem_axdr.specs.View.{tree_of}
use Rattle.cosem_axdr.specs.declared.value.Data.{Data}
use Rattle.cosem_names.specs.declared.service.AttributeSelection.{AttributeSelection}
use Rattle.relay_events.specs.declared.event.Event.{Event}
use Rattle.relay_events.specs.declared.event.Event.TheVariants.{Get, GetList, Set, Execute, Button}
use Rattle.relay_events.specs.declared.event.Event.TheVariants.{Samples, Moment}
use Rattle.text_lines.specs.Lines.{is_row, IsPlain}
use Rattle.text_lines.specs.Words.{words_of, line_of}
use Rattle.text_lines.proofs.PlainLemmas.{hex_is_plain, plain_word}
use Rattle.text_lines.proofs.WordsLemmas.{words_again, line_of-words_of}
use Rattle.trace_words.proofs.LabelsBack.{IsRowBack, labelled_back}
use Rattle.trace_words.proofs.PartLaws.{Nothing, IsExact, within_bound, data_exact}
use Rattle.trace_words.proofs.PartLaws.{both_exact, empty_exact, counted_exact, to_end_exact}
use Rattle.trace_words.proofs.PartLaws.{one_of_exact, line_back, line_again, line_is_row, choice_first, IsWithin, more_within}
use Rattle.trace_words.proofs.PartLaws.{none_within, next_within}
use Rattle.trace_words.proofs.PlaceLemmas as place
use Rattle.trace_words.proofs.ShortRows.{IsShort}
use Rattle.trace_words.proofs.TextBytes.{text_is_bytes}
use Rattle.trace_words.proofs.WordLaws.{number_is_row, number_word_again, labelled_again}
use Rattle.trace_words.proofs.WordsBack.{number_back}
use Rattle.trace_words.specs.Labels.{number_row}
use Rattle.trace_words.specs.Places.{line_as}
use Rattle.trace_words.specs.Parts.{Each, same_word, words_before}
use Rattle.trace_words.specs.Reading.{number_in}
use Rattle.trace_words.specs.Rows.{Word, Row, if_last}
use Rattle.trace_words.specs.Writing.{IsHeld, all_words, data_word, flag_number}
use Rattle.trace_words.specs.declared.fault.RowFault.TheVariants.{Wrong}
use Rattle.trace_words.specs.declared.version.Version.{Version}
use Rattle.trace_words.specs.declared.version.Version.TheVariants.{One, Two}
use Rattle.trace_lines.specs.Events.{max_events, events_from, event_forms, later_forms, event_parts}
use Rattle.trace_lines.specs.Events.{AreEven, IsEven, event_format, event_of, samples_parts}
use Rattle.trace_lines.specs.Parts.{selection_part, sample_part, pair_part}
use Rattle.trace_lines.specs.Reading.{level_number, parameter_word}
use Rattle.trace_lines.specs.Traced.{HasPlainData, IsNamed, IsTraced}
use Rattle.trace_lines.specs.Writing.{event_row}
use Rattle.trace_lines.proofs.PartLaws.{level_exact, method_exact, selection_exact, parameter_exact}
use Rattle.trace_lines.proofs.PartLaws.{sample_exact, pair_exact}

-- ---- an event is made of its parts, and taken apart into them

firsts : (imports exports : List ℕ) → length imports ≡ length exports
    → map (λ (pair : ℕ × ℕ). pair.0) (zip imports exports) ≡ imports
firsts [] exports even = refl
firsts (import ∷ imports) [] even = absurd (omega arith)
firsts (import ∷ imports) (export ∷ exports) even =
    ap (λ (rest : List ℕ). import ∷ rest) (firsts imports exports (omega arith))

seconds : (imports exports : List ℕ) → length imports ≡ length exports
    → map (λ (pair : ℕ × ℕ). pair.1) (zip imports exports) ≡ exports
seconds [] [] even = refl
seconds [] (export ∷ exports) even = absurd (omega arith)
seconds (import ∷ imports) [] even = absurd (omega arith)
seconds (import ∷ imports) (export ∷ exports) even =
    ap (λ (rest : List ℕ). export ∷ rest) (seconds imports exports (omega arith))

zipped : (pairs : List (ℕ × ℕ)) → zip (map (λ (pair : ℕ × ℕ). pair.0) pairs)
    (map (λ (pair : ℕ × ℕ). pair.1) pairs) ≡ pairs
zipped [] = refl
zipped (pair ∷ pairs) = ap (λ (rest : List (ℕ × ℕ)). pair ∷ rest) (zipped pairs)

block_made : (imports : List ℕ) (exports : Option (List ℕ)) → AreEven imports exports
    → value_of (event_forms (later_forms Two))
    (event_parts (Samples (record { import = imports; export = exports })))
    ≡ Samples (record { import = imports; export = exports })
block_made imports None even = refl
block_made imports (Some exports) even =
    ap₂ (λ (is es : List ℕ). Samples (record { import = is; export = Some es }))
    (firsts imports exports even) (seconds imports exports even)

event_made : (event : Event) → IsEven event
    → value_of (event_forms (later_forms Two)) (event_parts event) ≡ event
event_made (Samples block) even = block_made block.import block.export even
event_made _ even = refl

made_event : (p : Parts (event_forms (later_forms Two)))
    → event_parts (value_of (event_forms (later_forms Two)) p) ≡ p
made_event (inl p) = refl
made_event (inr (inl p)) = refl
made_event (inr (inr (inl p))) = refl
made_event (inr (inr (inr (inl p)))) = refl
made_event (inr (inr (inr (inr (inl p))))) = refl
made_event (inr (inr (inr (inr (inr (inl p)))))) = refl
made_event (inr (inr (inr (inr (inr (inr (inl p))))))) = refl
made_event (inr (inr (inr (inr (inr (inr (inr (inl pairs)))))))) =
    ap (λ (p : List (ℕ × ℕ)). inr (inr (inr (inr (inr (inr (inr (inl p)))))))) (zipped pairs)
made_event (inr (inr (inr (inr (inr (inr (inr (inr none)))))))) = absurd none

-- ---- the lines of events

event_exact : IsExact Nothing 20000 event_format
event_exact =
    let get = both_exact _ _ level_exact selection_exact in
    let items = counted_exact selection_part selection_exact 102 4703 (omega arith)
    (λ n le. omega (arith, le)) in
    let get_list = both_exact _ _ level_exact items in
    let set = both_exact _ _ level_exact (both_exact _ _ selection_exact data_exact) in
    let execute = both_exact _ _ level_exact (both_exact _ _ method_exact parameter_exact) in
    let samples = to_end_exact sample_part sample_exact 256 2816 (λ n le. omega (arith, le))
    (λ n. (decimal n, [], refl)) in
    let pairs = to_end_exact pair_part pair_exact 256 5632 (λ n le. omega (arith, le))
    (λ pair. (decimal pair.0, decimal pair.1 ∷ [], refl)) in
    within_bound 20000 (omega arith) (one_of_exact Nothing 16500 IsEven
    (event_forms (later_forms Two)) event_parts event_made made_event refl (
      within_bound 16500 (omega arith) get,
      refl,
      omega arith,
      (
        within_bound 16500 (omega arith) get_list,
        refl,
        omega arith,
        (
          within_bound 16500 (omega arith) set,
          refl,
          omega arith,
          (
            within_bound 16500 (omega arith) execute,
            refl,
            omega arith,
            (
              within_bound 16500 (omega arith) empty_exact,
              refl,
              omega arith,
              (
                within_bound 16500 (omega arith) sample_exact,
                refl,
                omega arith,
                (
                  within_bound 16500 (omega arith) samples,
                  refl,
                  omega arith,
                  (within_bound 16500 (omega arith) pairs, refl, omega arith, tt),
                ),
              ),
            ),
          ),
        ),
      ),
    ))

pub event_again : (event : Event) → IsTraced event → event_of Two (event_row event) ≡ Ok event
unfolding event_of event_row IsTraced
event_again event traced = line_again event_format event_exact event traced

pub event_is_row : (event : Event) → IsTraced event → is_row (event_row event) ≡ true
unfolding event_row IsTraced
event_is_row event traced = line_is_row event_format event_exact event traced
    (choice_first (event_forms (later_forms Two)) (event_parts event))

pub event_short : (event : Event) → IsTraced event → IsShort (event_row event)
unfolding event_row IsTraced
event_short event traced = event_exact.short event traced

pub event_line_again : (event : Event) → IsTraced event
    → event_of Two (words_of (line_of (event_row event))) ≡ Ok event
event_line_again event traced = ap (event_of Two) (words_again (event_row event)
    (event_is_row event traced)) ∙ event_again event traced

-- an event of version 1 is read in version 2 too
forms_within : IsWithin (event_forms (later_forms One)) (event_forms (later_forms Two))
forms_within =
    more_within _ _ _ _ _ (more_within _ _ _ _ _ (more_within _ _ _ _ _ (more_within _ _ _ _ _
    (more_within _ _ _ _ _ (more_within _ _ _ _ _ (more_within _ _ _ _ _
    (none_within (later_forms Two))))))))

in_two : (row : Row) (event : Event) → event_of One row ≡ Ok event → event_of Two row ≡ Ok event
unfolding event_of
in_two row event e =
    let read = bind_ok (next_read same_word Wrong (event_forms (later_forms One)) row)
    (λ x. if_last x.1 x.0) event e in
    rw (next_within (event_forms (later_forms One)) (event_forms (later_forms Two)) forms_within row
    read.0 read.1) read.2

pub event_back : (version : Version) (row : Row) (event : Event) → event_of version row ≡ Ok event
    → event_row event ≡ row
unfolding event_of event_row
event_back One row event e = line_back event_format event_exact row event (in_two row event e)
event_back Two row event e = line_back event_format event_exact row event e

-- the bytes of the line that an event was read from are those that are written for it
pub event_line_back : (version : Version) (line : List ℕ) (event : Event)
    → event_of version (words_of line) ≡ Ok event → line_of (event_row event) ≡ line
event_line_back version line event e = ap line_of (event_back version (words_of line) event e)
    ∙ line_of-words_of line

-- ---- the words of the line of an event: fixed words, decimal numbers, and bytes in hexadecimal

-- A property that each word of a line has: fixed words, decimal numbers, and the hexadecimal words
-- of names and Data. If `Known` holds, the bytes of a name are bytes, and the word of a Data is
-- plain. A property of all hexadecimal words needs neither.
pub record WordsHave (Known : Type 0) (Has : Word → Type 0) : Type 0 where
  pub fixed : (word : Word) → list_all (nat_lt 10) word ≡ true
      → list_all (λ byte. nat_lt byte 128) word ≡ true → Has word
  pub number : (n : ℕ) → Has (decimal n)
  pub name : (bytes : List ℕ) → (Known → IsBytes bytes) → Has (encode_upper bytes)
  pub value : (value : Data) → (Known → IsPlain (data_word value)) → Has (data_word value)

module _ {Known : Type 0} {Has : Word → Type 0} (has : WordsHave Known Has) where
  -- each of the words has the property
  abbrev AllHave : Row → Type 0
  AllHave words = AllByRecursion Has words

  -- a class_id, a logical name and a number, before other words
  reference_words : (class number : ℕ) (name : List ℕ) (words : Row) → (Known → IsBytes name)
      → AllHave words → AllHave (decimal class ∷ encode_upper name ∷ decimal number ∷ words)
  reference_words class number name words known others =
      (has.number class, (has.name name known, (has.number number, others)))

  items_words : (items : List AttributeSelection) → (Known → Each selection_part.Fits items)
      → AllHave (all_words (words_before selection_part) items)
  unfolding all_words
  items_words [] named = tt
  items_words (item ∷ items) named =
      reference_words item.attr.class.0 item.attr.number item.attr.name.0
      (decimal (flag_number item.selected) ∷ all_words (words_before selection_part) items)
      (λ known. (named known).0.0.1.0.1)
      (has.number (flag_number item.selected), items_words items (λ known. (named known).1))

  parameter_words : (parameter : Option Data) → (Known → IsPlain (parameter_word parameter))
      → Has (parameter_word parameter)
  parameter_words None plain = has.fixed (codes "-") refl refl
  parameter_words (Some value) plain = has.value value plain

  values_words : (values : List ℕ) → AllHave (all_words (words_before sample_part) values)
  unfolding all_words
  values_words [] = tt
  values_words (value ∷ values) = (has.number value, values_words values)

  pairs_words : (pairs : List (ℕ × ℕ)) → AllHave (all_words (words_before pair_part) pairs)
  unfolding all_words
  pairs_words [] = tt
  pairs_words (pair ∷ pairs) = (has.number pair.0, (has.number pair.1, pairs_words pairs))

  block_words : (imports : List ℕ) (exports : Option (List ℕ))
      → AllHave (keyed_text (event_forms (later_forms Two)) (samples_parts imports exports))
  block_words imports None = (has.fixed (codes "samples") refl refl, values_words imports)
  block_words imports (Some exports) =
      (has.fixed (codes "pairs") refl refl, pairs_words (zip imports exports))

  pub event_words : (event : Event) → (Known → IsNamed event) → (Known → HasPlainData event)
      → AllHave (event_row event)
  unfolding event_row
  event_words (Get level attr selected) named plain = (
    has.fixed (codes "get") refl refl,
    (
      has.number (level_number level),
      reference_words attr.class.0 attr.number attr.name.0
          (decimal (flag_number selected) ∷ []) (λ known. (named known).1.0.1)
          (has.number (flag_number selected), tt),
    ),
  )
  event_words (GetList level items) named plain = (
    has.fixed (codes "getlist") refl refl,
    (has.number (level_number level), (has.number (length items), items_words items named)),
  )
  event_words (Set level attr selected value) named plain = (
    has.fixed (codes "set") refl refl,
    (
      has.number (level_number level),
      reference_words attr.class.0 attr.number attr.name.0
          (decimal (flag_number selected) ∷ data_word value ∷ []) (λ known. (named known).1.0.1)
          (has.number (flag_number selected), (has.value value plain, tt)),
    ),
  )
  event_words (Execute level method parameter) named plain = (
    has.fixed (codes "execute") refl refl,
    (
      has.number (level_number level),
      reference_words method.class.0 method.number method.name.0
          (parameter_word parameter ∷ [])
          (λ known. (named known).1.0.1) (parameter_words parameter plain, tt),
    ),
  )
  event_words Button named plain = (has.fixed (codes "button") refl refl, tt)
  event_words (Moment now) named plain =
      (has.fixed (codes "moment") refl refl, (has.number now, tt))
  event_words (Samples block) named plain = block_words block.import block.export

-- ---- the names and the Data of an event that a trace can hold

data_plain : (value : Data) → IsHeld value → IsPlain (data_word value)
data_plain value held =
    hex_is_plain (text (tree_of value)) (text_is_bytes (tree_of value) held.fits)

parameter_plain : (parameter : Option Data) → IfSome parameter IsHeld
    → IsPlain (parameter_word parameter)
parameter_plain None held = plain_word (codes "-") refl
parameter_plain (Some value) held = data_plain value held

pub traced_plain : (event : Event) → IsTraced event → IsNamed event × HasPlainData event
unfolding IsTraced
traced_plain (Get level attr selected) traced = (traced.1.1.0, tt)
traced_plain (GetList level items) traced = (traced.1.1.1, tt)
traced_plain (Set level attr selected value) traced =
    (traced.1.1.0.0, data_plain value traced.1.1.1)
traced_plain (Execute level method parameter) traced =
    (traced.1.1.0, parameter_plain parameter traced.1.1.1)
traced_plain _ traced = (tt, tt)

-- ---- the number of events

pub events_again : (count : ℕ) → count ≤ 65536
    → events_from (number_row (codes "events") count) ≡ Ok count
events_again count le =
    let read = number_word_again 65536 count le (omega arith) in
    labelled_again (codes "events") (number_in 65536) (decimal count) count read

pub event_count_again : (count number : ℕ) (rows : List Row) (unended : List ℕ) → count ≤ 65536
    → line_as events_from (record {
      number = number;
      rows = number_row (codes "events") count ∷ rows;
      unended = unended;
    }) ≡ Ok (count, record { number = suc number; rows = rows; unended = unended })
event_count_again count number rows unended le = place.line_again events_from
    (number_row (codes "events") count) count number rows unended (events_again count le)

pub event_count_is_row : (count : ℕ) → count ≤ 65536
    → is_row (number_row (codes "events") count) ≡ true
event_count_is_row count le = number_is_row (codes "events") count refl (omega arith)

pub events_back : IsRowBack ℕ events_from (λ count. number_row (codes "events") count)
events_back row count e = labelled_back ℕ (codes "events") (number_in max_events) decimal
    (number_back max_events (omega arith)) row count e

-- the line of the number of events
pub event_count_back : (row : Row) (count : ℕ) → events_from row ≡ Ok count
    → number_row (codes "events") count ≡ row
event_count_back row count e = sym (events_back row count e)
