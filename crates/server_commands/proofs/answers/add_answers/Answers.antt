use Rattle.std.proofs.Common.{refl, get_or}
use Rattle.server_commands.proofs.AnswerLemmas.{next_answered, next_sized}
use Rattle.server_commands.proofs.answers.add_answers.Goals as goal

pub requests-preserved : goal.requests-preserved
requests-preserved c = record {
  sized = next_sized c.parts.result.1.now c.requests.left.now c.split_at.result.1.now
      c.requests.count-index (get_or c.parts.result.1.now c.requests.count-index 0)
      c.requests-test.true refl c.split_at.ensures.back c.requests.invariant.sized;
  on = next_answered c.args.requests.now c.parts.result.1.now c.requests.left.now
      c.split_at.result.0.now c.split_at.result.1.now c.requests.count-index
      (get_or c.parts.result.1.now c.requests.count-index 0) c.args.core.now c.requests.core
      c.add_answer.new.core c.args.lines.now.items c.requests.lines.items
      c.add_answer.new.lines.items c.requests-test.true refl c.split_at.ensures.front
      c.split_at.ensures.back c.requests.invariant.on c.in_ok-add_answer.ensures;
}
