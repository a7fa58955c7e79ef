-- The lines of a trace, read one after the other from the head of an input.
use Rattle.std.proofs.Common.{rules, ◌≡◌, ℕ, ◌<◌, ◌≤◌, ◌^◌, Bool, true, false, ◌==◌, ◌&&◌, ◌||◌, not, nat_lt, nat_le, nat_eq, codes, decimal, List, [], ◌∷◌, ◌++◌, length, take, drop, slice_index, ◌-◌, Option, Some, None, Result, Ok, Err, IfOk, IfErr, IsErrAnd, ⊎_elim, if◌then◌else◌, refl, sym, ap, ◌∙◌, subst, arith}
use Rattle.std.specs.Char.{is_ascii_digit}
use Rattle.std.specs.Cmp.Lexicographic.{pointwise}
use Rattle.std.specs.Io.KnownBytes.{Consumes}
use Rattle.std.specs.List.{list_all}
use Rattle.std.specs.Str.Parse.{digits_value}
use Rattle.std.proofs.lemmas.Bool.{eqb-true, and_parts}
use Rattle.std.proofs.lemmas.Bool.Decides.{nat_tests}
use Rattle.std.proofs.lemmas.Fmt.{decimal-digits_value, decimal_digit}
use Rattle.std.proofs.lemmas.List.{append-nil, take_all, length-drop}
use Rattle.std.proofs.lemmas.Str.Parse.{IsNumeralModel, numerals_by_value}
use Rattle.relay_core.specs.Opening.{IsFitOpening}
use Rattle.wire_bytes.proofs.OutcomeLemmas.{bind_ok, ok_is, guard_ok, chosen}
use Rattle.trace_words.specs.Labels.{words_after, labelled_value}
use Rattle.trace_openings.specs.OpeningFields.{version_in, version_from}
use Rattle.trace_words.specs.Reading.{number_in, last_as}
use Rattle.trace_words.specs.Rows.{Word, Row, or_wrong}
use Rattle.trace_words.specs.declared.fault.RowFault.TheVariants.{Wrong}
use Rattle.trace_words.specs.declared.version.Version.{Version}
use Rattle.trace_words.specs.declared.version.Version.TheVariants.{One, Two}
use Rattle.trace_words.specs.declared.fault.TraceFault.{TraceFault}
use Rattle.trace_words.specs.declared.fault.TraceFault.TheVariants as trace_fault
use Rattle.trace_words.specs.declared.fault.TraceFault.TheVariants.{TooLong}
use Rattle.relay_recorder.specs.declared.trace.Trace.{Trace}
use Rattle.trace_player.specs.Traces.{max_bytes, trace_from, trace_of}
use Rattle.trace_words.specs.Places.{place_of}
use Rattle.text_lines.proofs.LinesLemmas.{rows_text-rows_of, rows_text-nil}
use Rattle.text_lines.proofs.NumbersLemmas.{chosen_some}
use Rattle.text_lines.proofs.WordsLemmas.{line_of-words_of}
use Rattle.text_lines.specs.Lines.{rows_of, rows_text}
use Rattle.text_lines.specs.Numbers.{is_decimal, number_of}
use Rattle.text_lines.specs.Words.{line_of}
use Rattle.server_commands.proofs.Laid.{laid_out}
use Rattle.server_commands.specs.Heads.{Ahead, Grows, HasNoTrace, IsHeadFault, IsTextFault, IsLaidOut, IsLine, TakesHead, first_line, rows_from_count}
use Rattle.server_commands.specs.declared.plan_fault.PlanFault.{PlanFault}
use Rattle.server_commands.specs.declared.plan_fault.PlanFault.TheVariants as plan

-- ---- the first line

-- words that are compared equal are the same
same_word : (xs ys : List ℕ) → pointwise nat_eq xs ys ≡ true → xs ≡ ys
same_word [] [] e = refl
same_word [] (y ∷ ys) e = absurd cc
same_word (x ∷ xs) [] e = absurd cc
same_word (x ∷ xs) (y ∷ ys) e =
    let both = and_parts (nat_eq x y) (pointwise nat_eq xs ys) e in
    ap (λ (n : ℕ). n ∷ xs) (eqb-true x y both.0)
    ∙ ap (λ (zs : List ℕ). y ∷ zs) (same_word xs ys both.1)

-- ---- what the line of the version determines

behind_found : (label : Word) (row : Row) (x : Unit {0} × Row) → words_after label row ≡ Ok x → row
    ≡ label ∷ x.1
unfolding words_after
behind_found label [] x e = absurd cc
behind_found label (word ∷ words) x e =
    let both = guard_ok (pointwise nat_eq word label) _ _ x e in
    ap (λ (w : Word). w ∷ words) (same_word word label both.0)
    ∙ ap (λ (pair : Unit {0} × Row). label ∷ pair.1) (ok_is (tt, words) x both.1)

-- the last word
last_found : (words : Row) (version : Version) → last_as version_in words ≡ Ok version
    → (word : Word) × (words ≡ word ∷ []) × (version_in word ≡ Ok version)
last_found [] version e = absurd cc
last_found (word ∷ []) version e = (word, refl, e)
last_found (word ∷ other ∷ words) version e = absurd cc

-- a line of the version has two words
two_words : (label : Word) (row : Row) (version : Version) → labelled_value label version_in row
    ≡ Ok version → (word : Word) × (row ≡ label ∷ word ∷ []) × (version_in word ≡ Ok version)
two_words label row version e =
    let first = bind_ok (words_after label row) _ version e in
    let last = last_found first.0.1 version first.2 in (
      last.0,
      behind_found label row first.0 first.1
          ∙ ap (λ (words : Row). label ∷ words) last.1,
      last.2,
    )

-- the test of a word's digits is that of std, and so is their value
digits_model : IsNumeralModel (λ word. list_all is_ascii_digit word ≡ true) (digits_value 10)
digits_model = numerals_by_value _ (search rules)

-- the conditions under which a word is a number
record IsDecimal (word : List ℕ) : Type 0 where
  some : 0 < length word
  digits : list_all is_ascii_digit word ≡ true
  lead : slice_index word 0 ≡ 48 → length word ≡ 1

decimal_parts : (word : List ℕ) → is_decimal word ≡ true → IsDecimal word
decimal_parts word e =
    let front = and_parts (nat_lt 0 (length word) && list_all is_ascii_digit word) (length word == 1
    || not (slice_index word 0 == 48)) e in
    let both = and_parts (nat_lt 0 (length word)) (list_all is_ascii_digit word) front.0 in
    record {
      some = grind (arith, nat_tests);
      digits = both.1;
      lead = λ zero. grind (arith, nat_tests);
    }

below : (m limit : ℕ) → nat_le m limit ≡ true → limit < 2 ^ 64 → m < 2 ^ 64
below m limit le small = grind (arith, nat_tests)

-- a number is written by one word only
number_word : (limit n : ℕ) (word : Word) → limit < 2 ^ 64 → number_of limit word ≡ Some n
    → word ≡ decimal n
unfolding number_of
number_word limit n word small e =
    let found = chosen_some (is_decimal word && nat_le (digits_value 10 word) limit)
    (digits_value 10 word) n e in
    let both = and_parts (is_decimal word) (nat_le (digits_value 10 word) limit) found.0 in
    let parts = decimal_parts word both.0 in
    sym (decimal-digits_value digits_model word parts.digits parts.some parts.lead
    (below (digits_value 10 word) limit both.1 small)) ∙ ap decimal found.1

wanted_found : (o : Option ℕ) (n : ℕ) → or_wrong o ≡ Ok n → o ≡ Some n
wanted_found (Some m) n e = ap (λ (k : ℕ). Some k) (ok_is m n e)
wanted_found None n e = absurd cc

version_by : (n : ℕ) (version : Version) → (if n == 1 then Ok One else if n == 2 then Ok Two
    else Err Wrong) ≡ Ok version
    → line_of (codes "RELAYTRACE" ∷ decimal n ∷ []) ++ 10 ∷ [] ≡ first_line version
unfolding line_of
version_by n version e = ⊎_elim
    (λ (one : ((n == 1) ≡ true) × (Ok One ≡ Ok version)).
    ap (λ (k : ℕ). line_of (codes "RELAYTRACE" ∷ decimal k ∷ []) ++ 10 ∷ []) (eqb-true n 1 one.0)
    ∙ ap (λ (word : Word). line_of (codes "RELAYTRACE" ∷ word ∷ []) ++ 10
    ∷ []) (decimal_digit 1 (omega arith)) ∙ ap first_line (ok_is One version one.1))
    (λ (other : ((n == 1) ≡ false) × ((if n == 2 then Ok Two else Err Wrong) ≡ Ok version)). ⊎_elim
    (λ (two : ((n == 2) ≡ true) × (Ok Two ≡ Ok version)).
    ap (λ (k : ℕ). line_of (codes "RELAYTRACE" ∷ decimal k ∷ []) ++ 10 ∷ []) (eqb-true n 2 two.0)
    ∙ ap (λ (word : Word). line_of (codes "RELAYTRACE" ∷ word ∷ []) ++ 10
    ∷ []) (decimal_digit 2 (omega arith)) ∙ ap first_line (ok_is Two version two.1))
    (λ (none : ((n == 2) ≡ false) × (Err Wrong ≡ Ok version)). let never = none.1 in absurd cc)
    (chosen (n == 2) (Ok Two) (Err Wrong) (Ok version) other.1))
    (chosen (n == 1) (Ok One) (if n == 2 then Ok Two else Err Wrong) (Ok version) e)

-- the first line of a trace is one of two
pub version_line : (bytes : List ℕ) (row : Row) (version : Version) → IsLine bytes row
    → version_from row ≡ Ok version → bytes ≡ first_line version
version_line bytes row version line told =
    let two = two_words (codes "RELAYTRACE") row version told in
    let number = bind_ok (number_in 2 two.0) _ version two.2 in
    let word : two.0 ≡ decimal number.0 = number_word 2 number.0 two.0 (omega arith)
    (wanted_found (number_of 2 two.0) number.0 number.1) in
    line.ended
    ∙ ap (λ (l : List ℕ). l ++ 10 ∷ []) (sym (line_of-words_of line.line)
    ∙ ap line_of (line.words ∙ two.1) ∙ ap (λ (w : Word). line_of (codes "RELAYTRACE" ∷ w ∷ []))
    word)
    ∙ version_by number.0 version number.2

-- ---- from the first line to the last

-- the lines after the first
abbrev pub behind_first : {text : List ℕ} → IsLaidOut text → List Row
behind_first laid = laid.opening ++ rows_from_count laid

-- before the first read all lines are still to be read
pub ahead_new : (text rest now : List ℕ) (left : Option (List ℕ)) (laid : IsLaidOut text) → now ≡ []
    → left ≡ Some (text ++ rest)
    → Ahead text rest (laid.first ∷ behind_first laid) now left
ahead_new text rest now left laid none is =
    record {
      still = text;
      whole = ap (λ (bytes : List ℕ). bytes ++ text) (sym none);
      left_is = is;
      rows_are = laid.rows;
      ended = laid.ended;
    }

-- the first line read is the whole text so far
pub whole_line : (old new : List ℕ) (row : Row) → old ≡ [] → IsLine (drop (length old) new) row
    → IsLine new row
whole_line old new row none line = subst (λ (o : List ℕ). IsLine
    (drop (length o) new) row) none line

-- a line that is cut out of a text
pub line_cut : (bytes old new : List ℕ) (start : ℕ) (row : Row) → bytes ≡ new → start ≡ length old
    → IsLine (drop (length old) new) row
    → IsLine (take (length bytes - start) (drop start bytes)) row
line_cut bytes old new start row same long line =
    let whole : take (length bytes - start) (drop start bytes)
    ≡ drop start bytes = take_all (length bytes - start) (drop start bytes)
    (omega (arith, length-drop start bytes)) in
    let cut : drop start bytes ≡ drop (length old) new = ap (λ (bs : List ℕ). drop start bs) same
    ∙ ap (λ (n : ℕ). drop n new) long in
    subst (λ (bs : List ℕ). IsLine bs row) (sym (whole ∙ cut)) line

-- the fault of a call that is returned
pub same_fault : {X F : Type 0} (result : Result X F) (fault given : F)
    → IsErrAnd result (λ f. f ≡ fault) → result ≡ Err given → fault ≡ given
same_fault (Ok x) fault given is e = absurd is
same_fault {X} {F} (Err f) fault given is e = let same : f ≡ given = cc in sym is ∙ same

-- after the last line the whole text has been read
ahead_end : (text rest so_far : List ℕ) (left : Option (List ℕ))
    → Ahead text rest [] so_far left → so_far ≡ text
ahead_end text rest so_far left ahead =
    let none : [] ++ [] ≡ ahead.still =
    ap (λ (bytes : List ℕ). bytes ++ []) (sym rows_text-nil)
    ∙ ap (λ (rows : List Row). rows_text rows ++ []) (sym ahead.rows_are)
    ∙ ap (λ (bytes : List ℕ). rows_text (rows_of ahead.still) ++ bytes) (sym ahead.ended)
    ∙ rows_text-rows_of ahead.still in
    sym (ahead.whole ∙ ap (λ (bytes : List ℕ). so_far ++ bytes) (sym none) ∙ append-nil so_far)

-- after the last of several lines
pub all_read : {F : Type 0} (result : Result Bool F) (text rest so_far : List ℕ)
    (left : Option (List ℕ))
    → IfOk result (λ is_read. (is_read ≡ true) × Ahead text rest [] so_far left)
    → IfOk result (λ is_read. (is_read ≡ true) × (so_far ≡ text))
all_read (Ok is_read) text rest so_far left told =
    (told.0, ahead_end text rest so_far left told.1)
all_read (Err fault) text rest so_far left told = tt

-- a text that is read as a trace is not too long
small_text : (text : List ℕ) (trace : Trace) → trace_of text ≡ Ok trace → length text ≤ max_bytes
unfolding trace_of
small_text text trace e = ⊎_elim
    (λ (long : (nat_lt max_bytes (length text) ≡ true) × (Err TooLong ≡ Ok trace)). let never =
    long.1 in absurd cc)
    (λ (short : (nat_lt max_bytes (length text) ≡ false)
    × (trace_from (place_of text) ≡ Ok trace)). let fits = short.0 in grind (arith, nat_tests))
    (chosen (nat_lt max_bytes (length text)) (Err TooLong) (trace_from (place_of text))
    (Ok trace) e)

-- an input that does not begin with the lines of a trace has no trace at its head
pub no_head : (left : Option (List ℕ)) → ((text rest : List ℕ) → left ≡ Some (text ++ rest)
    → length text ≤ max_bytes → IsLaidOut text → ⊥) → HasNoTrace left
no_head None never = tt
no_head (Some bytes) never = λ head.
    never head.text head.rest (ap (λ (b : List ℕ). Some b) head.cut)
    (small_text head.text head.trace head.told)
    (laid_out head.text head.trace head.counted head.told)

-- nor has an input whose first lines are not a trace
wrong_head : (left : Option (List ℕ)) (read : List ℕ) (fault : TraceFault)
    → ((text rest : List ℕ) → left ≡ Some (text ++ rest) → IsLaidOut text → read ≡ text)
    → trace_of read ≡ Err fault → HasNoTrace left
wrong_head None read fault is e = tt
wrong_head (Some bytes) read fault is e = λ head.
    let same : read ≡ head.text = is head.text head.rest (ap (λ (b : List ℕ). Some b) head.cut)
    (laid_out head.text head.trace head.counted head.told) in
    let told : trace_of read ≡ Ok head.trace = ap trace_of same ∙ head.told in
    absurd cc

-- what was read of an input: a text, and whether it has the lines of a trace
record ReadsHead (left left' : Option (List ℕ)) (text : List ℕ) (counted : Bool) : Type 0 where
  read : Consumes left left' text
  whole : (bytes rest : List ℕ) → left ≡ Some (bytes ++ rest) → IsLaidOut bytes
      → (counted ≡ true) × (text ≡ bytes)

-- why what was read of an input is no trace
wrong_read : (left left' : Option (List ℕ)) (text : List ℕ) (counted failed : Bool) (f : PlanFault)
    → ReadsHead left left' text counted → IsTextFault text counted f → IsHeadFault left failed f
wrong_read left left' text counted failed (plan.Line number) reads told = (
  wrong_head left text (trace_fault.Line number)
      (λ bytes rest is laid. (reads.whole bytes rest is laid).1) told,
  record { text = text; left' = left'; read = reads.read; told = told },
)
wrong_read left left' text counted failed plan.Journal reads told = (
  no_head left (λ bytes rest is small laid.
      let all : counted ≡ true = (reads.whole bytes rest is laid).0 in
      let none : counted ≡ false = told.0 in absurd cc),
  record { text = text; left' = left'; read = reads.read; told = (refl, told.1) },
)
wrong_read left left' text counted failed plan.TooLong reads told =
    wrong_head left text TooLong (λ bytes rest is laid. (reads.whole bytes rest is laid).1) told
wrong_read left left' text counted failed plan.Memory reads told = tt
wrong_read left left' text counted failed plan.Password reads told = absurd told
wrong_read left left' text counted failed plan.Device reads told = absurd told
wrong_read left left' text counted failed plan.Depth reads told = absurd told
wrong_read left left' text counted failed plan.Read reads told = absurd told

-- a text that was read onto an empty one, as it is seen
reads_head : (left left' : Option (List ℕ)) (none text seen : List ℕ) (counted : Bool) → none ≡ []
    → Grows none left text left' → seen ≡ text
    → ((bytes rest : List ℕ) → left ≡ Some (bytes ++ rest) → IsLaidOut bytes
    → (counted ≡ true) × (text ≡ bytes))
    → ReadsHead left left' seen counted
reads_head left left' none text seen counted empty grows see whole =
    let same : seen ≡ grows.bytes = see ∙ grows.added
    ∙ ap (λ (b : List ℕ). b ++ grows.bytes) empty in
    record {
      read = subst (Consumes left left') (sym same) grows.read;
      whole = λ bytes rest is laid. (
        (whole bytes rest is laid).0,
        see ∙ (whole bytes rest is laid).1,
      );
    }

-- the trace of what was read
pub head_given : (left left' : Option (List ℕ)) (none text seen : List ℕ) (counted : Bool)
    (result : Result Trace PlanFault) → none ≡ [] → Grows none left text left' → seen ≡ text
    → ((bytes rest : List ℕ) → left ≡ Some (bytes ++ rest) → IsLaidOut bytes
    → (counted ≡ true) × (text ≡ bytes))
    → IfOk result (λ trace. (counted ≡ true) × (trace_of seen ≡ Ok trace)
    × IsFitOpening trace.opening)
    → IfOk result (λ trace. TakesHead left trace left')
head_given left left' none text seen counted (Ok trace) empty grows see whole told =
    let reads = reads_head left left' none text seen counted empty grows see whole in
    record { text = seen; read = reads.read; told = told.1; fit = told.2 }
head_given left left' none text seen counted (Err f) empty grows see whole told = tt

-- why it is no trace
pub head_wrong : (left left' : Option (List ℕ)) (none text seen : List ℕ) (counted failed : Bool)
    (result : Result Trace PlanFault) → none ≡ [] → Grows none left text left' → seen ≡ text
    → ((bytes rest : List ℕ) → left ≡ Some (bytes ++ rest) → IsLaidOut bytes
    → (counted ≡ true) × (text ≡ bytes))
    → IfErr result (IsTextFault seen counted) → IfErr result (IsHeadFault left failed)
head_wrong left left' none text seen counted failed (Ok trace) empty grows see whole told = tt
head_wrong left left' none text seen counted failed (Err f) empty grows see whole told =
    wrong_read left left' seen counted failed f
    (reads_head left left' none text seen counted empty grows see whole) told
