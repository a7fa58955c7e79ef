use Rattle.std.proofs.Common.{◌++◌, arith}
use Rattle.trace_words.specs.Writing.{words_after_blanks, all_words}
use Rattle.trace_lines.specs.Replies.{result_words}
use Rattle.trace_words.proofs.Blanks.{one_more, all_written}
use Rattle.trace_lines.proofs.ItemsWritten.{result_stands}
use Rattle.trace_lines.proofs.reply_lines.add_results.Goals as goal

pub loop-item-preserved : goal.loop-item-preserved
loop-item-preserved c =
    one_more result_words result_stands c.args.items.now c.loop-item.item-index c.item-item.result
    c.item-item.result c.loop-item.out.items c.add_result.new.out.items (c.args.out.now.items
    ++ words_after_blanks (all_words result_words c.args.items.now))
    c.loop-item-test.true c.item-item.is c.in_ok-add_result.ensures c.loop-item.invariant

pub returns : goal.returns
returns c = all_written result_words c.args.items.now c.loop-item.item-index c.loop-item.out.items
    (c.args.out.now.items ++ words_after_blanks (all_words result_words c.args.items.now))
    (omega arith) c.loop-item.invariant
