-- Readers of lines that look at no line after those that they read.
--     IsRead      what was read, from which lines, and that it is read whatever follows these
--     IsLocal     each value that a reader returns is read so
use Rattle.std.proofs.Common.{◌≡◌, ℕ, suc, List, [], ◌∷◌, ◌++◌, Result, Ok, refl, ap, ◌∙◌}
use Rattle.std.proofs.Common.{append_assoc, arith}
use Rattle.wire_bytes.specs.Outcome.{◌>>=◌}
use Rattle.wire_bytes.proofs.OutcomeLemmas.{bind_ok, done}
use Rattle.trace_words.proofs.PlaceLemmas.{line_again, place}
use Rattle.trace_words.proofs.PlacesBack.{Took, carried, line_read, then}
use Rattle.trace_words.specs.Places.{Place, ReadLines, line_as}
use Rattle.trace_words.specs.Rows.{Row}
use Rattle.trace_words.specs.declared.fault.RowFault.{RowFault}
use Rattle.trace_words.specs.declared.fault.TraceFault.{TraceFault}

-- each of these lines has the property
abbrev pub Each : (Row → Type 0) → List Row → Type 0
Each Holds [] = Unit {0}
Each Holds (row ∷ rows) = Holds row × Each Holds rows

each_append : (Holds : Row → Type 0) (rows others : List Row) → Each Holds rows → Each Holds others
    → Each Holds (rows ++ others)
each_append Holds [] others one two = two
each_append Holds (row ∷ rows) others one two = (one.0, each_append Holds rows others one.1 two)

-- a value was read from these lines, each of which has a property; whatever follows them, it is
-- read from them
pub record IsRead {X : Type 0} (Holds : Row → Type 0) (read : Place → ReadLines X) (before : Place)
    (x : X) (behind : Place) : Type 0 where
  pub front : List Row
  pub took : Took front before behind
  pub each : Each Holds front
  pub again : (rows : List Row) (unended : List ℕ)
      → read (place before.number (front ++ rows) unended)
      ≡ Ok (x, place behind.number rows unended)

abbrev pub IsLocal : {X : Type 0} → (Row → Type 0) → (Place → ReadLines X) → Type 0
IsLocal {X} Holds read = (before : Place) (x : X) (behind : Place) → read before ≡ Ok (x, behind)
    → IsRead Holds read before x behind

-- nothing is read
pub local_none : {X : Type 0} (Holds : Row → Type 0) (x : X)
    → IsLocal Holds (λ p. done TraceFault (x, p))
local_none {X = X} Holds x before y behind e =
    carried X (λ z q. IsRead Holds (λ p. done TraceFault (x, p)) before z q) x y before behind e
    (record {
      front = [];
      took = record { lines = refl; number = omega arith; unended = refl };
      each = tt;
      again = λ rows unended. refl;
    })

-- one line
pub local_line : {X : Type 0} (Holds : Row → Type 0) (value_in : Row → Result X RowFault)
    → ((row : Row) (x : X) → value_in row ≡ Ok x → Holds row) → IsLocal Holds (line_as value_in)
local_line {X = X} Holds value_in holds before x behind e =
    let line = line_read X value_in before x behind e in
    let number : suc before.number ≡ behind.number = omega (arith, line.took.number) in
    record {
      front = line.row ∷ [];
      took = line.took;
      each = (holds line.row x line.read, tt);
      again = λ rows unended.
          line_again value_in line.row x before.number rows unended line.read
          ∙ ap (λ (n : ℕ). done TraceFault (x, place n rows unended)) number;
    }

-- one reader, and then another
pub local_then : {X Y : Type 0} (Holds : Row → Type 0) (read : Place → ReadLines X)
    (next : X × Place → ReadLines Y) → IsLocal Holds read
    → ((x : X) → IsLocal Holds (λ p. next (x, p))) → IsLocal Holds (λ p. read p >>= next)
local_then Holds read next first others before y behind e =
    let b = bind_ok (read before) next (y, behind) e in
    let one = first before b.0.0 b.0.1 b.1 in
    let two = others b.0.0 b.0.1 y behind b.2 in
    record {
      front = one.front ++ two.front;
      took = then one.front two.front before b.0.1 behind one.took two.took;
      each = each_append Holds one.front two.front one.each two.each;
      again = λ rows unended.
          rw (append_assoc one.front two.front rows, one.again (two.front ++ rows) unended)
          (two.again rows unended);
    }
