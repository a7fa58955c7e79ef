-- The first line of a text, as it is read from an input.
use Rattle.std.proofs.Common.{◌≡◌, ℕ, ◌+◌, ◌<◌, ◌≤◌, Bool, true, false, ◌==◌, if◌then◌else◌, cond, List, [], ◌∷◌, ◌++◌, length, length-append, map, drop, get_or, Option, Some, None, Err, IsErrOf, refl, sym, ap, ◌∙◌, subst, arith}
use Rattle.std.proofs.lemmas.Bool.{eqb-true}
use Rattle.std.proofs.lemmas.List.{append_assoc, drop_all, drop_more}
use Rattle.std.specs.Io.BufRead.{take_through, drop_through, DropsThrough}
use Rattle.std.specs.List.{onto_first}
use Rattle.std.specs.Prelude.{IfSome}
use Rattle.counted_io.specs.Lines.{IsLineFault, ReadsLine}
use Rattle.counted_io.specs.declared.fault.InputFault.{InputFault}
use Rattle.counted_io.specs.declared.fault.InputFault.TheVariants.{TooLong, Read, Memory}
use Rattle.trace_words.specs.Rows.{Row}
use Rattle.text_lines.specs.Lines.{all_but_last, last_of, lines_of, unended_of, rows_of}
use Rattle.text_lines.specs.Parts.{parts_at}
use Rattle.text_lines.specs.Words.{words_of}
use Rattle.server_commands.specs.Heads.{Ahead, IsLine, IsReadFault}

-- equal lists have equal heads and tails
heads : {X : Type 0} (x y : X) (xs ys : List X) → x ∷ xs ≡ y ∷ ys → x ≡ y
heads x y xs ys e = cc

tails : {X : Type 0} (x y : X) (xs ys : List X) → x ∷ xs ≡ y ∷ ys → xs ≡ ys
tails x y xs ys e = cc

-- a text that is cut at its first byte 0A, before these parts
record Cut (text part : List ℕ) (others : List (List ℕ)) : Type 0 where
  front : take_through 10 text ≡ part ++ 10 ∷ []
  others_are : parts_at 10 (drop_through 10 text) ≡ others
  alone : parts_at 10 (take_through 10 text) ≡ part ∷ [] ∷ []
  whole : text ≡ take_through 10 text ++ drop_through 10 text
  taken : (rest : List ℕ) → take_through 10 (text ++ rest) ≡ take_through 10 text
  dropped : (rest : List ℕ) → drop_through 10 (text ++ rest) ≡ drop_through 10 text ++ rest

-- a text that is cut at its first byte 0A, by whether its first byte is 0A
record CutBy (x : ℕ) (xs : List ℕ) (b : Bool) (part : List ℕ) (others : List (List ℕ)) :
    Type 0 where
  front : (if b then x ∷ [] else x ∷ take_through 10 xs) ≡ part ++ 10 ∷ []
  others_are : parts_at 10 (if b then xs else drop_through 10 xs) ≡ others
  alone : parts_at 10 (if b then x ∷ [] else x ∷ take_through 10 xs) ≡ part ∷ [] ∷ []
  whole : x ∷ xs ≡ (if b then x ∷ [] else x ∷ take_through 10 xs)
      ++ (if b then xs else drop_through 10 xs)
  taken : (rest : List ℕ) → (if b then x ∷ [] else x ∷ take_through 10 (xs ++ rest))
      ≡ (if b then x ∷ [] else x ∷ take_through 10 xs)
  dropped : (rest : List ℕ) → (if b then xs ++ rest else drop_through 10 (xs ++ rest))
      ≡ (if b then xs else drop_through 10 xs) ++ rest

-- the part to which a byte was prepended
record Onto (x : ℕ) (all : List (List ℕ)) (part next : List ℕ) (parts : List (List ℕ)) :
    Type 0 where
  short : List ℕ
  all_is : all ≡ short ∷ next ∷ parts
  part_is : x ∷ short ≡ part

onto : (x : ℕ) (all : List (List ℕ)) (part next : List ℕ) (parts : List (List ℕ)) → onto_first x all
    ≡ part ∷ next ∷ parts → Onto x all part next parts
onto x [] part next parts e = absurd cc
onto x (short ∷ others) part next parts e = record {
  short = short;
  all_is = ap (λ (ps : List (List ℕ)). short ∷ ps) (tails (x ∷ short) part others (next ∷ parts) e);
  part_is = heads (x ∷ short) part others (next ∷ parts) e;
}

-- the parts of a text to which this byte is prepended
parts_by : (x : ℕ) (xs : List ℕ) (b : Bool) → (x == 10) ≡ b → parts_at 10 (x ∷ xs)
    ≡ cond b ([] ∷ parts_at 10 xs) (onto_first x (parts_at 10 xs))
parts_by x xs b is = ap (λ (c : Bool). cond c ([] ∷ parts_at 10 xs) (onto_first x (parts_at 10 xs)))
    is

cut_by : (x : ℕ) (xs : List ℕ) (b : Bool) (part next : List ℕ) (parts : List (List ℕ)) → (x == 10)
    ≡ b
    → cond b ([] ∷ parts_at 10 xs) (onto_first x (parts_at 10 xs)) ≡ part ∷ next ∷ parts
    → ((short : List ℕ) → parts_at 10 xs ≡ short ∷ next ∷ parts → Cut xs short (next ∷ parts))
    → CutBy x xs b part (next ∷ parts)
cut_by x xs true part next parts is e before =
    let empty : [] ≡ part = heads [] part (parts_at 10 xs) (next ∷ parts) e in record {
      front = ap (λ (n : ℕ). n ∷ []) (eqb-true x 10 is) ∙ ap (λ (p : List ℕ). p ++ 10 ∷ []) empty;
      others_are = tails [] part (parts_at 10 xs) (next ∷ parts) e;
      alone = parts_by x [] true is ∙ ap (λ (p : List ℕ). p ∷ [] ∷ []) empty;
      whole = refl;
      taken = λ rest. refl;
      dropped = λ rest. refl;
    }
cut_by x xs false part next parts is e before =
    let on = onto x (parts_at 10 xs) part next parts e in
    let cut = before on.short on.all_is in record {
      front = ap (λ (bytes : List ℕ). x ∷ bytes) cut.front
          ∙ ap (λ (p : List ℕ). p ++ 10 ∷ []) on.part_is;
      others_are = cut.others_are;
      alone = parts_by x (take_through 10 xs) false is ∙ ap (onto_first x) cut.alone
          ∙ ap (λ (p : List ℕ). p ∷ [] ∷ []) on.part_is;
      whole = ap (λ (bytes : List ℕ). x ∷ bytes) cut.whole;
      taken = λ rest. ap (λ (bytes : List ℕ). x ∷ bytes) (cut.taken rest);
      dropped = λ rest. cut.dropped rest;
    }

cut : (text part next : List ℕ) (parts : List (List ℕ)) → parts_at 10 text ≡ part ∷ next ∷ parts
    → Cut text part (next ∷ parts)
cut [] part next parts e = absurd cc
cut (x ∷ xs) part next parts e =
    let by = cut_by x xs (x == 10) part next parts refl e (λ short is. cut xs short next parts is)
    in
    record {
      front = by.front;
      others_are = by.others_are;
      alone = by.alone;
      whole = by.whole;
      taken = by.taken;
      dropped = by.dropped;
    }

-- the first line is the first part
record TwoParts (all : List (List ℕ)) (row : Row) (rows : List Row) : Type 0 where
  part : List ℕ
  next : List ℕ
  parts : List (List ℕ)
  all_is : all ≡ part ∷ next ∷ parts
  words : words_of part ≡ row
  rows_are : map words_of (all_but_last (next ∷ parts)) ≡ rows

two_parts : (all : List (List ℕ)) (row : Row) (rows : List Row) → map words_of (all_but_last all)
    ≡ row ∷ rows → TwoParts all row rows
two_parts [] row rows e = absurd cc
two_parts (part ∷ []) row rows e = absurd cc
two_parts (part ∷ next ∷ parts) row rows e = record {
  part = part;
  next = next;
  parts = parts;
  all_is = refl;
  words = heads (words_of part) row (map words_of (all_but_last (next ∷ parts))) rows e;
  rows_are = tails (words_of part) row (map words_of (all_but_last (next ∷ parts))) rows e;
}

-- the first line of a text that has one
record FirstLine (text : List ℕ) (row : Row) (rows : List Row) : Type 0 where
  own : IsLine (take_through 10 text) row
  rows_are : rows_of (drop_through 10 text) ≡ rows
  ended : unended_of (drop_through 10 text) ≡ unended_of text
  whole : text ≡ take_through 10 text ++ drop_through 10 text
  taken : (rest : List ℕ) → take_through 10 (text ++ rest) ≡ take_through 10 text
  dropped : (rest : List ℕ) → drop_through 10 (text ++ rest) ≡ drop_through 10 text ++ rest

first_line : (text : List ℕ) (row : Row) (rows : List Row) → rows_of text ≡ row ∷ rows
    → FirstLine text row rows
unfolding rows_of lines_of unended_of
first_line text row rows e =
    let two = two_parts (parts_at 10 text) row rows e in
    let at = cut text two.part two.next two.parts two.all_is in record {
      own = record {
        line = two.part;
        ended = at.front;
        words = two.words;
        alone = ap (λ (ps : List (List ℕ)). map words_of (all_but_last ps)) at.alone
            ∙ ap (λ (r : Row). r ∷ []) two.words;
      };
      rows_are = ap (λ (ps : List (List ℕ)). map words_of (all_but_last ps)) at.others_are
          ∙ two.rows_are;
      ended = ap last_of at.others_are ∙ sym (ap last_of two.all_is);
      whole = at.whole;
      taken = at.taken;
      dropped = at.dropped;
    }

-- the text that was read after the text that was there
added : (old more : List ℕ) → drop (length old) (old ++ more) ≡ more
added [] more = refl
added (x ∷ xs) more = added xs more

-- a read of one line passes it
pub line_read : (text rest : List ℕ) (row : Row) (rows : List Row) (old new : List ℕ)
    (left left' : Option (List ℕ)) → Ahead text rest (row ∷ rows) old left
    → IfSome left (λ bytes. new ≡ old ++ take_through 10 bytes) → DropsThrough left left' 10
    → Ahead text rest rows new left' × IsLine (drop (length old) new) row
line_read text rest row rows old new left left' ahead took dropped =
    let first = first_line ahead.still row rows ahead.rows_are in
    let front = take_through 10 ahead.still in
    let behind = drop_through 10 ahead.still in
    let grown : new ≡ old ++ take_through 10 (ahead.still ++ rest) = subst
    (λ (l : Option (List ℕ)). IfSome l (λ bytes. new ≡ old ++ take_through 10 bytes))
    ahead.left_is took in
    let new_is : new ≡ old ++ front = grown ∙ ap (λ (bytes : List ℕ). old ++ bytes)
    (first.taken rest) in
    let past : left' ≡ Some (drop_through 10 (ahead.still ++ rest)) =
    subst (λ (l : Option (List ℕ)). DropsThrough l left' 10) ahead.left_is dropped in (
      record {
        still = behind;
        whole = ahead.whole ∙ ap (λ (bytes : List ℕ). old ++ bytes) first.whole
            ∙ sym (append_assoc old front behind)
            ∙ ap (λ (bytes : List ℕ). bytes ++ behind) (sym new_is);
        left_is = past ∙ ap (λ (bytes : List ℕ). Some bytes) (first.dropped rest);
        rows_are = first.rows_are;
        ended = first.ended ∙ ahead.ended;
      },
      subst (λ (bytes : List ℕ). IsLine bytes row)
          (sym (ap (drop (length old)) new_is ∙ added old front)) first.own,
    )

-- a line that was read in pieces
took : (old new bytes : List ℕ) (left : Option (List ℕ)) → new ≡ old ++ bytes
    → IfSome left (λ all. bytes ≡ take_through 10 all)
    → IfSome left (λ all. new ≡ old ++ take_through 10 all)
took old new bytes None added through = tt
took old new bytes (Some all) added through = added ∙ ap (λ (more : List ℕ). old ++ more) through

pub line_on : (text rest : List ℕ) (row : Row) (rows : List Row) (old new : List ℕ) (count : ℕ)
    (left left' : Option (List ℕ)) → Ahead text rest (row ∷ rows) old left
    → ReadsLine left old count left' new → Ahead text rest rows new left'
    × IsLine (drop (length old) new) row
line_on text rest row rows old new count left left' ahead line =
    line_read text rest row rows old new left left' ahead
    (took old new line.bytes left line.added line.through) line.rest

-- if a line is still to be read, one of no bytes is not the next
pub line_left : (text rest : List ℕ) (row : Row) (rows : List Row) (old new : List ℕ) (count : ℕ)
    (left left' : Option (List ℕ)) → Ahead text rest (row ∷ rows) old left
    → ReadsLine left old count left' new → count ≡ 0 → ⊥
line_left text rest row rows old new count left left' ahead line none =
    let first = first_line ahead.still row rows ahead.rows_are in
    let through : line.bytes ≡ take_through 10 (ahead.still ++ rest) = subst
    (λ (l : Option (List ℕ)). IfSome l (λ all. line.bytes ≡ take_through 10 all)) ahead.left_is
    line.through in
    let long : length line.bytes ≡ length (first.own.line ++ 10 ∷ []) =
    ap (λ (bytes : List ℕ). length bytes) (through ∙ first.taken rest ∙ first.own.ended) in
    absurd (omega (arith, long, line.counted, none, length-append first.own.line (10 ∷ [])))

-- a line of a text within a limit is not past it
pub line_fits : (text rest : List ℕ) (row : Row) (rows : List Row) (old : List ℕ)
    (left : Option (List ℕ)) (limit : ℕ) → Ahead text rest (row ∷ rows) old left
    → IfSome left (λ all. limit < length old + length (take_through 10 all)) → length text ≤ limit
    → ⊥
line_fits text rest row rows old left limit ahead over within =
    let first = first_line ahead.still row rows ahead.rows_are in
    let front = take_through 10 ahead.still in
    let behind = drop_through 10 ahead.still in
    let past : limit < length old + length (take_through 10 (ahead.still ++ rest)) = subst
    (λ (l : Option (List ℕ)). IfSome l (λ all. limit < length old
    + length (take_through 10 all))) ahead.left_is over in
    let taken : length (take_through 10 (ahead.still ++ rest)) ≡ length front =
    ap (λ (bytes : List ℕ). length bytes) (first.taken rest) in
    let whole : length text ≡ length (old ++ ahead.still) =
    ap (λ (bytes : List ℕ). length bytes) ahead.whole in
    let cut : length ahead.still ≡ length (front ++ behind) =
    ap (λ (bytes : List ℕ). length bytes) first.whole in
    omega (
      arith,
      past,
      taken,
      whole,
      cut,
      within,
      length-append old ahead.still,
      length-append front behind,
    )

-- a line that is not read because it is too long
pub long_line : {X : Type 0} (limit : ℕ) (left : Option (List ℕ)) (line : List ℕ) (failed : Bool)
    (given : InputFault) → IsErrOf {T = X} (Err given) TooLong
    → IsLineFault limit left line failed given
    → IfSome left (λ all. limit < length line + length (take_through 10 all))
long_line limit left line failed given is cause =
    let same : given ≡ TooLong = cc in
    subst (IsLineFault limit left line failed) same cause

-- the fault of a line that is not read
pub unread_line : (limit : ℕ) (left : Option (List ℕ)) (line : List ℕ) (failed : Bool)
    (given : InputFault) → IsLineFault limit left line failed given → IsReadFault failed given
unread_line limit left line failed TooLong cause = tt
unread_line limit left line failed Read cause = cause
unread_line limit left line failed Memory cause = tt

-- ---- several lines

-- the line after the first i lines
next_row : (i : ℕ) (front rows : List Row) → i < length front → (row : Row)
    × (drop i front ++ rows ≡ row ∷ (drop (i + 1) front ++ rows))
next_row i [] rows lt = absurd (omega arith)
next_row i (row ∷ front) rows lt = (
  get_or (row ∷ front) i row,
  ap (λ (all : List Row). all ++ rows) (drop_more (row ∷ front) i row lt),
)

-- one more of several lines
pub lines_on : (text rest : List ℕ) (front rows : List Row) (i : ℕ) (old new : List ℕ)
    (left left' : Option (List ℕ)) → i < length front
    → Ahead text rest (drop i front ++ rows) old left
    → ((row : Row) (others : List Row) → Ahead text rest (row ∷ others) old left
    → Ahead text rest others new left' × IsLine (drop (length old) new) row)
    → Ahead text rest (drop (i + 1) front ++ rows) new left'
lines_on text rest front rows i old new left left' lt ahead on =
    let next = next_row i front rows lt in
    (on next.0 (drop (i + 1) front ++ rows) (subst
    (λ (all : List Row). Ahead text rest all old left) next.1 ahead)).0

-- if one of several lines is still to be read, and no next line can be, nothing is
pub lines_left : (text rest : List ℕ) (front rows : List Row) (i : ℕ) (old : List ℕ)
    (left : Option (List ℕ)) → i < length front
    → Ahead text rest (drop i front ++ rows) old left
    → ((row : Row) (others : List Row) → Ahead text rest (row ∷ others) old left → ⊥) → ⊥
lines_left text rest front rows i old left lt ahead never =
    let next = next_row i front rows lt in
    never next.0 (drop (i + 1) front ++ rows)
    (subst (λ (all : List Row). Ahead text rest all old left) next.1 ahead)

-- after all of the lines
pub lines_over : (text rest : List ℕ) (front rows : List Row) (i : ℕ) (now : List ℕ)
    (left : Option (List ℕ)) → length front ≤ i
    → Ahead text rest (drop i front ++ rows) now left → Ahead text rest rows now left
lines_over text rest front rows i now left le ahead =
    subst (λ (all : List Row). Ahead text rest (all ++ rows) now left) (drop_all i front le) ahead
