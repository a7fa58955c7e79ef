use Rattle.std.proofs.Common.{false, get_or, ◌++◌, [], refl, arith}
use Rattle.cosem_names.specs.declared.service.AttributeSelection.{AttributeSelection}
use Rattle.trace_words.specs.Writing.{words_after_blanks, all_words}
use Rattle.trace_words.specs.Parts.{words_before}
use Rattle.trace_lines.specs.Parts.{selection_part}
use Rattle.trace_words.proofs.Blanks.{one_more, all_written}
use Rattle.trace_words.proofs.PartLaws.{before_stands}
use Rattle.trace_lines.proofs.writing.add_selections.Goals as goal

-- the default of a look-up past the end of the items
abbrev no_item : AttributeSelection
no_item = record {
  attr = record { class = record { 0 = 0 }; name = record { 0 = [] }; number = 0 };
  selected = false;
}

pub loop-item-preserved : goal.loop-item-preserved
loop-item-preserved c =
    one_more (words_before selection_part) (before_stands selection_part) c.args.items.now
    c.loop-item.item-index
    (get_or c.args.items.now c.loop-item.item-index no_item) no_item c.loop-item.out.items
    c.add_selection.new.out.items (c.args.out.now.items
    ++ words_after_blanks (all_words (words_before selection_part) c.args.items.now))
    c.loop-item-test.true refl c.in_ok-add_selection.ensures c.loop-item.invariant

pub returns : goal.returns
returns c = all_written (words_before selection_part) c.args.items.now
    c.loop-item.item-index
    c.loop-item.out.items (c.args.out.now.items
    ++ words_after_blanks (all_words (words_before selection_part) c.args.items.now))
    (omega arith) c.loop-item.invariant
