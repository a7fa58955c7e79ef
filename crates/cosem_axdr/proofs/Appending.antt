-- Bytes after an append.
use Rattle.std.proofs.Common.{◌≡◌, ℕ, List, [], ◌++◌, length, take, sym, ap, ◌∙◌, append_assoc, append-nil}
use Rattle.std.proofs.Math.Seq.{take-append_seam}
use Rattle.cosem_axdr.specs.Appending.{Extends}

-- an append that changed nothing
pub extends_same : {before after : List ℕ} → after ≡ before → Extends before after
extends_same {before} {after} e = record { added = []; is = e ∙ sym (append-nil before) }

-- an append that succeeded
pub extends_by : {before after : List ℕ} (text : List ℕ) → after ≡ before ++ text
    → Extends before after
extends_by text e = record { added = text; is = e }

-- an append after another
pub extends_on : {before middle after : List ℕ} → Extends before middle → Extends middle after
    → Extends before after
extends_on {before} {middle} {after} x y =
    record {
      added = x.added ++ y.added;
      is = y.is ∙ ap (λ (s : List ℕ). s ++ y.added) x.is
          ∙ append_assoc before x.added y.added;
    }

-- an append after one that succeeded
pub extends_more : {before middle after : List ℕ} (text : List ℕ) → middle ≡ before ++ text
    → Extends middle after → Extends before after
extends_more text e x = extends_on (extends_by text e) x

-- truncating to the earlier length restores the earlier bytes
pub earlier_again : {before after : List ℕ} → Extends before after
    → take (length before) after ≡ before
earlier_again {before} {after} x = ap (take (length before)) x.is ∙ take-append_seam before x.added
