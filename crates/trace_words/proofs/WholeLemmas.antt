-- The whole lines of a text before its first byte 0, and the text of these lines alone.
use Rattle.std.proofs.Common.{◌≡◌, ℕ, ◌+◌, ◌-◌, ◌<◌, ◌≤◌, ◌^◌, Bool, true, false, cond, List}
use Rattle.std.proofs.Common.{[], ◌∷◌, ◌++◌, length, map, take, drop, refl, sym, ap, ap₂, ◌∙◌}
use Rattle.std.proofs.Common.{subst}
use Rattle.std.proofs.Common.{arith, append_assoc, append-nil, length-append}
use Rattle.std.specs.List.{onto_first}
use Rattle.std.specs.Prelude.{if◌then◌else◌}
use Rattle.std.proofs.Math.Seq.{take-append_seam}
use Rattle.std.proofs.lemmas.List.{drop-take, length-drop, length-take, map-append}
use Rattle.std.proofs.lemmas.List.Elements.{All-nil, All-cons}
use Rattle.text_lines.specs.Lines.{all_but_last, lines_of, rows_of, text_of, unended_of}
use Rattle.text_lines.specs.Parts.{parts_at}
use Rattle.text_lines.specs.Words.{line_of, words_of}
use Rattle.text_lines.proofs.Cuts.{is_byte}
use Rattle.text_lines.proofs.JoinedTexts.{lines_joined, unended_joined}
use Rattle.text_lines.proofs.LinesLemmas.{lines_of-line, lines_of-nil, rows_of-none, rows_of-taken}
use Rattle.text_lines.proofs.LinesLemmas.{text_of-lines_of, unended_of-line, unended_of-nil}
use Rattle.text_lines.proofs.WordsLemmas.{HasNo, line_of-words_of}
use Rattle.trace_words.proofs.HeldLemmas.{slice_is}
use Rattle.trace_words.proofs.PlaceLemmas.{few_rows}
use Rattle.trace_words.specs.Places.{place_at}
use Rattle.trace_words.specs.Rows.{Row}
use Rattle.trace_words.specs.WholeLines.{FirstWhole, IsTail, IsWhole, before_zero, has_zero}
use Rattle.trace_words.specs.WholeLines.{whole_lines}

-- ---- a line has no byte 0A

-- none of these parts has a byte 0A
abbrev pub HaveNone : List (List ℕ) → Type 0
HaveNone [] = Unit {0}
HaveNone (part ∷ parts) = HasNo 10 part × HaveNone parts

none_onto : (x : ℕ) (parts : List (List ℕ)) → is_byte 10 x ≡ false → HaveNone parts
    → HaveNone (onto_first x parts)
none_onto x [] other have =
    (All-cons (λ b. is_byte 10 b ≡ false) x [] other (All-nil (λ b. is_byte 10 b ≡ false)), tt)
none_onto x (part ∷ parts) other have =
    (All-cons (λ b. is_byte 10 b ≡ false) x part other have.0, have.1)

none_with : (cut : Bool) (x : ℕ) (parts : List (List ℕ)) → is_byte 10 x ≡ cut → HaveNone parts
    → HaveNone (cond cut ([] ∷ parts) (onto_first x parts))
none_with true x parts is have = (All-nil (λ b. is_byte 10 b ≡ false), have)
none_with false x parts is have = none_onto x parts is have

have_none : (text : List ℕ) → HaveNone (parts_at 10 text)
have_none [] = (All-nil (λ b. is_byte 10 b ≡ false), tt)
have_none (x ∷ text) = none_with (is_byte 10 x) x (parts_at 10 text) refl (have_none text)

first_has_none : (parts : List (List ℕ)) (line : List ℕ) (lines : List (List ℕ))
    → all_but_last parts ≡ line ∷ lines → HaveNone parts → HasNo 10 line
first_has_none [] line lines is have = absurd cc
first_has_none (part ∷ []) line lines is have = absurd cc
first_has_none (part ∷ next ∷ parts) line lines is have =
    let same : part ≡ line = cc in subst (HasNo 10) same have.0

first_lines_have_none : (parts : List (List ℕ)) → HaveNone parts → HaveNone (all_but_last parts)
first_lines_have_none [] have = tt
first_lines_have_none (part ∷ []) have = tt
first_lines_have_none (part ∷ next ∷ parts) have =
    (have.0, first_lines_have_none (next ∷ parts) have.1)

-- no line of a text has a byte 0A
pub lines_have_none : (text : List ℕ) → HaveNone (lines_of text)
unfolding lines_of
lines_have_none text = first_lines_have_none (parts_at 10 text) (have_none text)

line_has_no_end : (text line : List ℕ) (lines : List (List ℕ)) → lines_of text ≡ line ∷ lines
    → HasNo 10 line
unfolding lines_of
line_has_no_end text line lines is =
    first_has_none (parts_at 10 text) line lines is (have_none text)

-- ---- the first line, alone

-- a text is its first line, the byte that ends it, and the rest
pub first_split : (text line rest : List ℕ) → lines_of text ≡ line ∷ lines_of rest
    → unended_of text ≡ unended_of rest → text ≡ (line ++ 10 ∷ []) ++ rest
unfolding text_of
first_split text line rest is ended =
    sym (text_of-lines_of text)
    ∙ ap₂ (λ (lines : List (List ℕ)) (bytes : List ℕ). text_of lines ++ bytes) is ended
    ∙ append_assoc line (10 ∷ text_of (lines_of rest)) (unended_of rest)
    ∙ ap (λ (bytes : List ℕ). line ++ 10 ∷ bytes) (text_of-lines_of rest)
    ∙ sym (append_assoc line (10 ∷ []) rest)

-- one line, and nothing else
record IsAlone (line : List ℕ) : Type 0 where
  lines : lines_of (line ++ 10 ∷ []) ≡ line ∷ []
  ended : unended_of (line ++ 10 ∷ []) ≡ []

alone : (line : List ℕ) → HasNo 10 line → IsAlone line
alone line none = record {
  lines = lines_of-line line [] none ∙ ap (λ (lines : List (List ℕ)). line ∷ lines) lines_of-nil;
  ended = unended_of-line line [] none ∙ unended_of-nil;
}

pub rows_joined : (text rest : List ℕ) → unended_of text ≡ []
    → rows_of (text ++ rest) ≡ rows_of text ++ rows_of rest
unfolding rows_of
rows_joined text rest ended = ap (map words_of) (lines_joined text rest ended)
    ∙ map-append words_of (lines_of text) (lines_of rest)

rows_alone : (line : List ℕ) → IsAlone line → rows_of (line ++ 10 ∷ []) ≡ words_of line ∷ []
unfolding rows_of
rows_alone line is = ap (map words_of) is.lines

-- ---- the lines before the first byte 0

-- no line is ended
pub none_whole : (text : List ℕ) → lines_of text ≡ [] → IsTail text
none_whole text none = ap before_zero (rows_of-none text none)

-- the first line has a byte 0
pub zero_whole : (text line rest : List ℕ) → lines_of text ≡ line ∷ lines_of rest
    → has_zero line ≡ true → IsTail text
zero_whole text line rest is zero =
    ap before_zero (rows_of-taken text line rest is) ∙ rw (line_of-words_of line, zero) refl

-- the first line has none
first_kept : (text rest : List ℕ) (first : FirstWhole text rest)
    → before_zero (rows_of text) ≡ words_of first.line ∷ before_zero (rows_of rest)
first_kept text rest first =
    ap before_zero (rows_of-taken text first.line rest first.lines)
    ∙ rw (line_of-words_of first.line, first.plain) refl

pub ruleset tails = (none_whole, zero_whole)

-- ---- the loop over them

-- the lines so far are whole, and the rest follows them
pub record Kept (text rest : List ℕ) (count : ℕ) : Type 0 where
  pub front : List ℕ
  pub split : text ≡ front ++ rest
  pub ended : unended_of front ≡ []
  pub rows : before_zero (rows_of text) ≡ rows_of front ++ before_zero (rows_of rest)
  pub counted : count ≡ length (rows_of front)

pub none_kept : (text : List ℕ) → Kept text text 0
none_kept text = record {
  front = [];
  split = refl;
  ended = unended_of-nil;
  rows = ap (λ (rows : List Row). rows ++ before_zero (rows_of text))
      (sym (rows_of-none [] lines_of-nil));
  counted = ap (λ (rows : List Row). length rows) (sym (rows_of-none [] lines_of-nil));
}

pub one_kept : (text rest behind : List ℕ) (count : ℕ) → FirstWhole rest behind
    → Kept text rest count → Kept text behind (count + 1)
one_kept text rest behind count first kept =
    let part = first.line ++ 10 ∷ [] in
    let is = alone first.line (line_has_no_end rest first.line (lines_of behind) first.lines) in
    let bytes = first_split rest first.line behind first.lines first.unended in
    let row = words_of first.line in
    let rows : rows_of (kept.front ++ part) ≡ rows_of kept.front ++ row ∷ [] =
    rows_joined kept.front part kept.ended
    ∙ ap (λ (rows : List Row). rows_of kept.front ++ rows) (rows_alone first.line is) in
    record {
      front = kept.front ++ part;
      split = kept.split ∙ ap (λ (b : List ℕ). kept.front ++ b) bytes
          ∙ sym (append_assoc kept.front part behind);
      ended = unended_joined kept.front part kept.ended ∙ is.ended;
      rows = kept.rows
          ∙ ap (λ (rows : List Row). rows_of kept.front ++ rows) (first_kept rest behind first)
          ∙ sym (append_assoc (rows_of kept.front) (row ∷ []) (before_zero (rows_of behind)))
          ∙ ap (λ (them : List Row). them ++ before_zero (rows_of behind)) (sym rows);
      counted =
          let l : length (rows_of (kept.front ++ part)) ≡ length (rows_of kept.front) + 1 =
          ap (λ (them : List Row). length them) rows
          ∙ length-append (rows_of kept.front) (row ∷ []) in
          omega (arith, l, kept.counted);
    }

-- the number of lines so far is less than the length of the text if another line follows
pub room_for_one : (text rest behind : List ℕ) (count : ℕ) → FirstWhole rest behind
    → Kept text rest count → count < length text
room_for_one text rest behind count first kept =
    let bytes = first_split rest first.line behind first.lines first.unended in
    let l : length text ≡ length kept.front + length rest =
    ap (λ (b : List ℕ). length b) kept.split ∙ length-append kept.front rest in
    let r : length rest ≡ length (first.line ++ 10 ∷ []) + length behind =
    ap (λ (b : List ℕ). length b) bytes ∙ length-append (first.line ++ 10 ∷ []) behind in
    let p = length-append first.line (10 ∷ []) in
    let few = few_rows kept.front in
    omega (arith, l, r, p, few, kept.counted)

-- fewer lines are left
pub fewer_left : (text rest : List ℕ) → FirstWhole text rest
    → length (lines_of rest) < length (lines_of text)
fewer_left text rest first =
    let l = ap (λ (lines : List (List ℕ)). length lines) first.lines in
    omega (arith, l)

-- no whole line is left
pub all_kept : (text rest : List ℕ) (count : ℕ) → IsTail rest → Kept text rest count
    → IsWhole text (length text - length rest) count
all_kept text rest count tail kept =
    let l : length text ≡ length kept.front + length rest =
    ap (λ (b : List ℕ). length b) kept.split ∙ length-append kept.front rest in
    let n : length text - length rest ≡ length kept.front = omega (arith, l) in
    let front : take (length text - length rest) text ≡ kept.front =
    ap₂ (λ (k : ℕ) (b : List ℕ). take k b) n kept.split ∙ take-append_seam kept.front rest in
    let rows : before_zero (rows_of text) ≡ rows_of kept.front =
    kept.rows ∙ ap (λ (rows : List Row). rows_of kept.front ++ rows) tail
    ∙ append-nil (rows_of kept.front) in
    record {
      within = omega arith;
      rows = ap rows_of front ∙ sym rows;
      ended = ap unended_of front ∙ kept.ended;
      counted = kept.counted ∙ ap (λ (them : List Row). length them) (sym rows);
    }

-- ---- the lines at a place

-- the text of the whole lines is at the place of these lines
pub whole_place : (number len count : ℕ) (text : List ℕ) → IsWhole text len count
    → place_at number (take len text) ≡ whole_lines (place_at number text)
whole_place number len count text is =
    ap₂ (λ (rows : List Row) (unended : List ℕ). record {
      number = number;
      rows = rows;
      unended = unended;
    }) is.rows is.ended

few_whole : (rows : List Row) → length (before_zero rows) ≤ length rows
few_whole [] = omega arith
few_whole (row ∷ rows) = by (has_zero (line_of row)) (few_whole rows)
  where
    by : (zero : Bool) → length (before_zero rows) ≤ length rows
        → length {A = Row} (if zero then [] else row ∷ before_zero rows) ≤ length (row ∷ rows)
    by true others = omega arith
    by false others = omega (arith, others)

-- the number of the last line fits 64 bits
pub whole_few : (number len count : ℕ) (text : List ℕ) → IsWhole text len count
    → number + length (rows_of text) < 2 ^ 64 → number + length (rows_of (take len text)) < 2 ^ 64
whole_few number len count text is room =
    let few = few_whole (rows_of text) in
    let same = ap (λ (them : List Row). length them) is.rows in
    omega (arith, few, same, room)

-- the whole lines of a text of which a front was read
pub record IsHeldWhole (text new : List ℕ) (taken number count : ℕ) : Type 0 where
  pub within : taken ≤ length new
  pub few : number + length (rows_of (drop taken new)) < 2 ^ 64
  pub kept : place_at number (drop taken new) ≡ whole_lines (place_at number (drop taken text))
  pub counted : count ≡ length (rows_of (drop taken new))

pub held_whole : (bytes text new : List ℕ) (taken number len count : ℕ) → bytes ≡ text
    → taken ≤ length text → number + length (rows_of (drop taken text)) < 2 ^ 64
    → new ≡ take (taken + len) text
    → IsWhole (take (length bytes - taken) (drop taken bytes)) len count
    → IsHeldWhole text new taken number count
held_whole bytes text new taken number len count same within room cut whole =
    let is : IsWhole (drop taken text) len count =
    subst (λ (b : List ℕ). IsWhole b len count) (slice_is bytes text taken same) whole in
    let front : drop taken new ≡ take len (drop taken text) =
    ap (drop taken) cut ∙ drop-take taken len text in
    let l = ap (λ (b : List ℕ). length b) cut in
    record {
      within = omega (
        arith,
        l,
        length-take (taken + len) text,
        length-drop taken text,
        within,
        is.within,
      );
      few = rw front (whole_few number len count (drop taken text) is room);
      kept = ap (place_at number) front ∙ whole_place number len count (drop taken text) is;
      counted = is.counted ∙ ap (λ (them : List Row). length them) (sym is.rows)
          ∙ ap (λ (b : List ℕ). length (rows_of b)) (sym front);
    }
