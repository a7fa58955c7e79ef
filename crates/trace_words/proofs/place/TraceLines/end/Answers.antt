use Rattle.std.proofs.Common.{rules, ◌≡◌, length, sym, arith}
use Rattle.std.proofs.lemmas.Grind.{common_steps}
use Rattle.trace_words.proofs.PlaceLemmas.{nothing_is_left, something_is_left, no_bytes}
use Rattle.trace_words.proofs.place.TraceLines.end.Goals as goal

pub returns-then-is_empty : goal.returns-then-is_empty
returns-then-is_empty c =
    let none : length c.rest.result.now ≡ 0 = grind (arith, common_steps) in
    sym (nothing_is_left c.args.self.now c.self.inside.number c.self.inside.lines
    (sym c.self.view_is) (no_bytes c.rest.result.now c.self.inside.lines c.rest.ensures none))

pub returns-else-is_empty : goal.returns-else-is_empty
returns-else-is_empty c = sym (something_is_left c.args.self.now c.self.inside.number
    c.self.inside.lines (sym c.self.view_is) (search rules))
