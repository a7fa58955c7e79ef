-- `==` of values is equality: it compares the numeric codes of two values part by part.
use Rattle.std.specs.Prelude.{Bool, true, false, ◌&&◌, ◌==◌}
use base.Stored.{Gv, gnil, gnum, gcons}
use Rattle.cosem_axdr.specs.Tree.{Trees}
use Rattle.cosem_axdr.specs.Stored.{stored, stored_all}
use Rattle.cosem_axdr.specs.View.{tree_of}
use Rattle.cosem_axdr.specs.declared.value.Data.{Data}

-- whether two codes have the same number, or the same in both parts
unfoldable pub is_same_code : Gv → Gv → Bool
is_same_code gnil gnil = true
is_same_code (gnum m) (gnum n) = m == n
is_same_code (gcons a b) (gcons c d) = is_same_code a c && is_same_code b d
is_same_code _ _ = false

-- whether two values of type Data are equal
abbrev pub is_same : Data → Data → Bool
is_same d e = is_same_code (stored (tree_of d)) (stored (tree_of e))

-- whether items are equal
abbrev pub are_same : Trees → Trees → Bool
are_same ts us = is_same_code (stored_all ts) (stored_all us)
