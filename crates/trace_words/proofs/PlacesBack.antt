-- Lines that were read one after the other are the lines of the text.
use Rattle.std.proofs.Common.{◌≡◌, ℕ, suc, ◌+◌, List, [], ◌∷◌, ◌++◌, length, Result, Ok, Err, sym, ap, subst, ◌∙◌, arith, length-append, append_assoc}
use Rattle.wire_bytes.proofs.OutcomeLemmas.{done, ok_is}
use Rattle.trace_words.proofs.LabelsBack.{IsRowBack}
use Rattle.trace_words.specs.Places.{Place, line_result, first_as, line_as}
use Rattle.trace_words.specs.Rows.{Row}
use Rattle.trace_words.specs.declared.fault.RowFault.{RowFault}
use Rattle.trace_words.specs.declared.fault.TraceFault.{TraceFault}

-- these lines lie between two places
pub record Took (rows : List Row) (place behind : Place) : Type 0 where
  pub lines : place.rows ≡ rows ++ behind.rows
  pub number : behind.number ≡ place.number + length rows
  pub unended : behind.unended ≡ place.unended

pub then : (rows others : List Row) (place middle behind : Place) → Took rows place middle
    → Took others middle behind → Took (rows ++ others) place behind
then rows others place middle behind first second = record {
  lines = first.lines ∙ ap (λ (rest : List Row). rows ++ rest) second.lines
      ∙ sym (append_assoc rows others behind.rows);
  number = let l = length-append rows others in omega (arith, first.number, second.number, l);
  unended = second.unended ∙ first.unended;
}

-- what holds of a value that was read and of the place after it
pub carried : (X : Type 0) (P : X → Place → Type 0) (x y : X) (a b : Place)
    → done {A = X × Place} TraceFault (x, a) ≡ Ok (y, b) → P x a → P y b
carried X P x y a b e p = subst (λ (read : X × Place). P read.0 read.1) (ok_is (x, a) (y, b) e) p

-- a line that was read
pub record LineRead (X : Type 0) (value_in : Row → Result X RowFault) (x : X)
    (place behind : Place) : Type 0 where
  pub row : Row
  pub took : Took (row ∷ []) place behind
  pub read : value_in row ≡ Ok x

passed_is : (X : Type 0) (r : Result X RowFault) (number : ℕ) (rows : List Row) (unended : List ℕ)
    (x : X) (behind : Place)
    → line_result r number rows unended ≡ Ok (x, behind) → (r ≡ Ok x)
    × (record { number = suc number; rows = rows; unended = unended } ≡ behind)
passed_is X (Ok y) number rows unended x behind e =
    let is = ok_is (y, record { number = suc number; rows = rows; unended = unended })
    (x, behind) e in
    (ap (λ (p : X × Place). Ok p.0) is, ap (λ (p : X × Place). p.1) is)
passed_is X (Err fault) number rows unended x behind e = absurd cc

first_read : (X : Type 0) (value_in : Row → Result X RowFault) (number : ℕ) (rows : List Row)
    (unended : List ℕ) (x : X) (behind : Place)
    → first_as value_in number rows unended ≡ Ok (x, behind)
    → LineRead X value_in x (record { number = number; rows = rows; unended = unended }) behind
first_read X value_in number [] unended x behind e = absurd cc
first_read X value_in number (row ∷ rows) unended x behind e =
    let read = passed_is X (value_in row) number rows unended x behind e in
    let next = ap (λ (p : Place). p.number) read.1 in
    record {
      row = row;
      took = record {
        lines = ap (λ (p : Place). row ∷ p.rows) read.1;
        number = omega (arith, next);
        unended = sym (ap (λ (p : Place). p.unended) read.1);
      };
      read = read.0;
    }

pub line_read : (X : Type 0) (value_in : Row → Result X RowFault) (place : Place) (x : X)
    (behind : Place) → line_as value_in place ≡ Ok (x, behind) → LineRead X value_in x place behind
unfolding line_as
line_read X value_in place x behind e = first_read X value_in place.number place.rows place.unended
    x behind e

-- a line that was read is the one that is written
pub line_back : (X : Type 0) (value_in : Row → Result X RowFault) (row_of : X → Row)
    → IsRowBack X value_in row_of
    → (place : Place) (x : X) (behind : Place) → line_as value_in place ≡ Ok (x, behind)
    → Took (row_of x ∷ []) place behind
line_back X value_in row_of back place x behind e =
    let line = line_read X value_in place x behind e in
    subst (λ (row : Row). Took (row ∷ []) place behind) (back line.row x line.read) line.took
