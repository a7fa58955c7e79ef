use Rattle.std.proofs.Common.{◌≤◌, length, drop, length-drop, sym, ap, arith, List, ℕ}
use Rattle.trace_words.proofs.Blanks.{behind_all}
use Rattle.trace_words.proofs.PlaceLemmas.{nothing_is_left, something_is_left}
use Rattle.trace_words.proofs.held.HeldLines.end.Goals as goal

pub returns-then-self-len : goal.returns-then-self-len
returns-then-self-len c =
    let all : length c.self.inside.text.items ≤ c.self.inside.taken = omega arith in
    sym (nothing_is_left c.args.self.now c.self.inside.number
    (drop c.self.inside.taken c.self.inside.text.items) (sym c.self.view_is)
    (behind_all c.self.inside.text.items c.self.inside.taken all))

pub returns-else-self-len : goal.returns-else-self-len
returns-else-self-len c =
    let left = length-drop c.self.inside.taken c.self.inside.text.items in
    let within = c.self.invariant.0 in
    sym (something_is_left c.args.self.now c.self.inside.number
    (drop c.self.inside.taken c.self.inside.text.items) (sym c.self.view_is) (λ e.
    let none = ap (λ (bytes : List ℕ). length bytes) e in
    absurd (omega (arith, left, within, none))))
