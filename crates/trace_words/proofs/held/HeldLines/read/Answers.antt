use Rattle.std.proofs.Common.{◌≡◌, ◌+◌, ◌<◌, ◌^◌, [], ◌∷◌, length, drop, List, refl, sym, ap, ◌∙◌, arith, inr}
use Rattle.text_lines.specs.Lines.{lines_of, unended_of}
use Rattle.text_lines.proofs.LinesLemmas.{rows_of-taken}
use Rattle.trace_words.proofs.HeldLemmas.{slice_is, line_behind, held_read, none_held}
use Rattle.trace_words.proofs.PlaceLemmas.{number_goes_on}
use Rattle.trace_words.specs.Places.{line_as, place_at}
use Rattle.trace_words.specs.Rows.{Row}
use Rattle.trace_words.proofs.held.HeldLines.read.Goals as goal

pub overflow_sub-self : goal.overflow_sub-self
overflow_sub-self g c =
    let slice = slice_is c.as_slice.result.now c.self.inside.text.items c.self.inside.taken
    c.as_slice.ensures.value in
    let here : lines_of (drop c.self.inside.taken c.self.inside.text.items) ≡ c.in-Some.line.now
    ∷ lines_of c.in-Some.rest.now = ap lines_of (sym slice) ∙ c.in-Some.ensures.lines in
    let ends : unended_of (drop c.self.inside.taken c.self.inside.text.items)
    ≡ unended_of c.in-Some.rest.now = ap unended_of (sym slice) ∙ c.in-Some.ensures.unended in
    let within = (line_behind c.self.inside.text.items c.in-Some.line.now c.in-Some.rest.now
    c.self.inside.taken here ends).0 in
    omega (arith, within)

pub overflow_add-self : goal.overflow_add-self
overflow_add-self g c =
    let slice = slice_is c.as_slice.result.now c.self.inside.text.items c.self.inside.taken
    c.as_slice.ensures.value in
    let here : lines_of (drop c.self.inside.taken c.self.inside.text.items) ≡ c.in-Some.line.now
    ∷ lines_of c.in-Some.rest.now = ap lines_of (sym slice) ∙ c.in-Some.ensures.lines in
    let room : c.self.inside.number + 1 < 2 ^ 64 =
    number_goes_on c.self.inside.number (drop c.self.inside.taken c.self.inside.text.items)
    c.in-Some.line.now c.in-Some.rest.now here c.self.invariant.1 in
    omega (arith, room)

pub invariant_of-self : goal.invariant_of-self
invariant_of-self g c =
    let slice = slice_is c.as_slice.result.now c.self.inside.text.items c.self.inside.taken
    c.as_slice.ensures.value in
    let here : lines_of (drop c.self.inside.taken c.self.inside.text.items) ≡ c.in-Some.line.now
    ∷ lines_of c.in-Some.rest.now = ap lines_of (sym slice) ∙ c.in-Some.ensures.lines in
    let ends : unended_of (drop c.self.inside.taken c.self.inside.text.items)
    ≡ unended_of c.in-Some.rest.now = ap unended_of (sym slice) ∙ c.in-Some.ensures.unended in
    let left = (line_behind c.self.inside.text.items c.in-Some.line.now c.in-Some.rest.now
    c.self.inside.taken here ends).1 in
    let long : c.len.result ≡ length c.self.inside.text.items = omega arith in
    let rows = ap (λ (them : List Row). length them)
    (rows_of-taken (drop c.self.inside.taken c.self.inside.text.items) c.in-Some.line.now
    c.in-Some.rest.now here) in
    let room = c.self.invariant.1 in
    (omega arith, rw (long, left) (omega (arith, rows, room)))

pub returns-in-Some : goal.returns-in-Some
returns-in-Some g c = λ value_from reader.
    let slice = slice_is c.as_slice.result.now c.self.inside.text.items c.self.inside.taken
    c.as_slice.ensures.value in
    let here : lines_of (drop c.self.inside.taken c.self.inside.text.items) ≡ c.in-Some.line.now
    ∷ lines_of c.in-Some.rest.now = ap lines_of (sym slice) ∙ c.in-Some.ensures.lines in
    let ends : unended_of (drop c.self.inside.taken c.self.inside.text.items)
    ≡ unended_of c.in-Some.rest.now = ap unended_of (sym slice) ∙ c.in-Some.ensures.unended in
    let left = (line_behind c.self.inside.text.items c.in-Some.line.now c.in-Some.rest.now
    c.self.inside.taken here ends).1 in
    let long : c.len.result ≡ length c.self.inside.text.items = omega arith in
    let read = reader c.in-Some.line.now c.parse-read.result (
      c.in-Some.line,
      c.parse-read.ensures,
      refl,
    ) in
    let place : place_at c.self.inside.number (drop c.self.inside.taken c.self.inside.text.items)
    ≡ c.args.self.now = c.self.view_is ∙ c.drop_read_text.ensures in
    rw (← place, c.at_line.ensures, long, left)
    (held_read value_from c.self.inside.number (drop c.self.inside.taken c.self.inside.text.items)
    c.in-Some.line.now c.in-Some.rest.now c.parse-read.result here ends read)

pub returns-in-None : goal.returns-in-None
returns-in-None g c = λ value_from reader.
    let slice = slice_is c.as_slice.result.now c.self.inside.text.items c.self.inside.taken
    c.as_slice.ensures.value in
    let none : lines_of (drop c.self.inside.taken c.self.inside.text.items) ≡ [] =
    ap lines_of (sym slice) ∙ c.in-None.ensures.lines in
    let place : place_at c.self.inside.number (drop c.self.inside.taken c.self.inside.text.items)
    ≡ c.args.self.now = c.self.view_is ∙ c.drop_read_text.ensures in
    inr (ap (line_as value_from) (sym place) ∙ none_held value_from c.self.inside.number
    (drop c.self.inside.taken c.self.inside.text.items) none)
