-- The number of lines that a value is read from.
use Rattle.std.proofs.Common.{◌≡◌, ℕ, ◌+◌, List, [], ◌∷◌, ◌++◌, length, length-append, Result, Ok, refl, arith}
use Rattle.wire_bytes.specs.Outcome.{◌>>=◌}
use Rattle.wire_bytes.proofs.OutcomeLemmas.{bind_ok}
use Rattle.trace_words.proofs.PlacesBack.{Took, then, carried, line_read}
use Rattle.trace_words.specs.Places.{Place, ReadLines, line_as}
use Rattle.trace_words.specs.Rows.{Row}
use Rattle.trace_words.specs.declared.fault.RowFault.{RowFault}

-- n lines lie between two places
pub record Passes (n : ℕ) (place behind : Place) : Type 0 where
  pub rows : List Row
  pub long : length rows ≡ n
  pub took : Took rows place behind

-- a reader of lines reads n lines from this place
abbrev pub Takes : {X : Type 0} → ℕ → Place → ReadLines X → Type 0
Takes {X} n place read = (x : X) (behind : Place) → read ≡ Ok (x, behind) → Passes n place behind

pub takes_then : {X Y : Type 0} (m n : ℕ) (place : Place) (read : ReadLines X) (next : X × Place
    → ReadLines Y)
    → Takes m place read → ((x : X × Place) → Takes n x.1 (next x))
    → Takes (m + n) place (read >>= next)
takes_then m n place read next first others y behind e =
    let b = bind_ok read next (y, behind) e in
    let one = first b.0.0 b.0.1 b.1 in
    let two = others b.0 y behind b.2 in record {
      rows = one.rows ++ two.rows;
      long = omega (arith, length-append one.rows two.rows, one.long, two.long);
      took = then one.rows two.rows place b.0.1 behind one.took two.took;
    }

pub takes_none : {X : Type 0} (place : Place) (x : X) → Takes {X = X} 0 place (Ok (x, place))
takes_none {X = X} place x y behind e =
    carried X (λ _ q. Passes 0 place q) x y place behind e
    (record {
      rows = [];
      long = refl;
      took = record {
        lines = refl;
        number = omega arith;
        unended = refl;
      };
    })

pub takes_line : {X : Type 0} (value_in : Row → Result X RowFault) (place : Place)
    → Takes 1 place (line_as value_in place)
takes_line {X = X} value_in place x behind e =
    let line = line_read X value_in place x behind e in
    record { rows = line.row ∷ []; long = refl; took = line.took }
