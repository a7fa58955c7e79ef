use Rattle.std.proofs.Common.{List, ap, ◌∙◌}
use Rattle.cosem_axdr.specs.declared.value.Data.{Data}
use Rattle.cosem_axdr.specs.declared.value.Data.TheVariants.{Array}
use Rattle.cosem_axdr.specs.Tree.{Trees, trees_of}
use Rattle.cosem_axdr.specs.View.{all_trees}
use Rattle.cosem_names.specs.ObjectList.{object_list_of}
use Rattle.cosem_names.proofs.object_entries.object_list.Goals as goal

-- The entries are those of the tables, so the array of them is the list.
pub returns : goal.returns
unfolding object_list_of
returns c =
    ap (λ (items : Trees). Array items)
    (c.from_vec.ensures.trees ∙ ap (λ (entries : List Data). trees_of (all_trees entries))
    c.in_ok-entries.ensures)
