use Rattle.std.proofs.Common.{◌≡◌, ℕ, ◌<◌, List, [], ◌∷◌, ◌++◌, length, refl, sym, ◌∙◌, ap, arith}
use Rattle.std.proofs.lemmas.List.{append-nil}
use Rattle.durable_lines.specs.FileState.{torn_text}
use Rattle.durable_lines.specs.declared.byte_fate.ByteFate.{ByteFate}
use Rattle.durable_lines.proofs.file_state.append_torn.Goals as goal

nothing_torn : (fates : List ByteFate) (bytes : List ℕ) → length bytes < 1
    → torn_text fates bytes ≡ []
nothing_torn [] bytes short = refl
nothing_torn (fate ∷ fates) [] short = refl
nothing_torn (fate ∷ fates) (byte ∷ bytes) short = absurd (omega (arith, short))

pub returns : goal.returns
returns c =
    sym (append-nil c.bytes.left.items)
    ∙ ap (λ left. c.bytes.left.items ++ left)
    (sym (nothing_torn c.bytes.fates.now c.bytes.bytes.now c.in_default.len_below))
    ∙ c.bytes.invariant
