-- A text that grows by what is read.
use Rattle.std.proofs.Common.{ℕ, List, [], ◌++◌, Option, Result, Ok, Err, OnOk, ap, sym, ◌∙◌}
use Rattle.std.proofs.lemmas.List.{append_assoc, append-nil}
use Rattle.std.specs.Io.KnownBytes.{Consumes}
use Rattle.std.proofs.KnownBytes.{Consumes-trans}
use Rattle.counted_io.specs.Lines.{ReadsLine}
use Rattle.server_commands.specs.Heads.{Grows}

-- one read followed by another
pub grows_on : (a b c : List ℕ) (l m n : Option (List ℕ)) → Grows a l b m → Grows b m c n
    → Grows a l c n
grows_on a b c l m n first then = record {
  bytes = first.bytes ++ then.bytes;
  read = Consumes-trans l m n first.bytes then.bytes first.read then.read;
  added = then.added ∙ ap (λ (xs : List ℕ). xs ++ then.bytes) first.added
      ∙ append_assoc a first.bytes then.bytes;
}

-- one read followed by another that may fail
pub grows_after : {X F : Type 0} (result : Result X F) (a b c : List ℕ) (l m n : Option (List ℕ))
    → Grows a l b m → OnOk result (Grows b m c n) → OnOk result (Grows a l c n)
grows_after (Ok x) a b c l m n first then = grows_on a b c l m n first then
grows_after (Err fault) a b c l m n first then = tt

-- no read at all
pub grows_none : (a : List ℕ) (l : Option (List ℕ)) → Consumes l l [] → Grows a l a l
grows_none a l none = record { bytes = []; read = none; added = sym (append-nil a) }

-- a text grew by a line
pub grows_by : (a b : List ℕ) (count : ℕ) (l m : Option (List ℕ)) → ReadsLine l a count m b
    → Grows a l b m
grows_by a b count l m line = record { bytes = line.bytes; read = line.read; added = line.added }
