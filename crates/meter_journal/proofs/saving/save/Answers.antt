use Rattle.std.proofs.Common.{◌≡◌, List, ℕ, subst, sym}
use Rattle.shared_meter.specs.Pending.{lines_of_calls, IsRest}
use Rattle.meter_journal.proofs.SavingLemmas.{appended_leaves, is_text_taken, saved_all}
use Rattle.meter_journal.proofs.SavingLemmas.{unchanged_leaves}
use Rattle.meter_journal.proofs.saving.save.Goals as goal

pub returns-in_err-text-clause-any_moment : goal.returns-in_err-text-clause-any_moment
returns-in_err-text-clause-any_moment g c = λ acts first saved.
    unchanged_leaves g.F.DurableFile.model c.args.file.now
    first c.args.taken c.args.port.now.known.seen c.take_lines.new.port.known.seen
    c.take_lines.ensures.watches.sees.seen (c.requires.settled acts) saved

-- the text that is appended is that of the lines that were taken
rest_of : (lines : List (List ℕ)) (taken count : ℕ) (text slice : List ℕ) → slice ≡ text
    → IsRest lines taken text count → IsRest lines taken slice count
rest_of lines taken count text slice is rest =
    subst (λ bytes. IsRest lines taken bytes count) (sym is) rest

pub append_and_renew-requires-clause-text : goal.append_and_renew-requires-clause-text
append_and_renew-requires-clause-text g c =
    let lines = lines_of_calls c.take_lines.new.port.known.seen in
    is_text_taken lines c.args.taken c.in_ok-text.count c.as_slice.result.now
    (rest_of lines c.args.taken c.in_ok-text.count c.in_ok-text.text.items c.as_slice.result.now
    c.as_slice.ensures.value c.in_ok-text.ensures.lines)

pub returns-in-Ok-clause-saved : goal.returns-in-Ok-clause-saved
returns-in-Ok-clause-saved g c = λ acts first saved.
    let model = g.F.DurableFile.model in
    let q = c.take_lines.new.port.known.seen in
    let rest = rest_of (lines_of_calls q) c.args.taken c.in_ok-text.count c.in_ok-text.text.items
    c.as_slice.result.now c.as_slice.ensures.value c.in_ok-text.ensures.lines in
    saved_all model.renews first c.args.taken c.in_ok-text.count c.as_slice.result.now
    c.args.port.now.known.seen q (model.seen c.args.file.now)
    (model.seen c.append_and_renew.new.file)
    c.take_lines.ensures.watches.sees.seen rest saved (c.in-Ok.ensures.lines acts first)

pub returns-in-Ok-clause-any_moment : goal.returns-in-Ok-clause-any_moment
returns-in-Ok-clause-any_moment g c = λ acts first saved.
    let q = c.take_lines.new.port.known.seen in
    let rest = rest_of (lines_of_calls q) c.args.taken c.in_ok-text.count c.in_ok-text.text.items
    c.as_slice.result.now c.as_slice.ensures.value c.in_ok-text.ensures.lines in
    appended_leaves g.F.DurableFile.model c.args.file.now
    c.append_and_renew.new.file first c.args.taken c.in_ok-text.count c.as_slice.result.now
    c.args.port.now.known.seen q c.take_lines.ensures.watches.sees.seen rest saved
    (c.append_and_renew.ensures.any_moment acts first)

pub returns-in-Err-clause-any_moment : goal.returns-in-Err-clause-any_moment
returns-in-Err-clause-any_moment g c = λ acts first saved.
    let q = c.take_lines.new.port.known.seen in
    let rest = rest_of (lines_of_calls q) c.args.taken c.in_ok-text.count c.in_ok-text.text.items
    c.as_slice.result.now c.as_slice.ensures.value c.in_ok-text.ensures.lines in
    appended_leaves g.F.DurableFile.model c.args.file.now
    c.append_and_renew.new.file first c.args.taken c.in_ok-text.count c.as_slice.result.now
    c.args.port.now.known.seen q c.take_lines.ensures.watches.sees.seen rest saved
    (c.append_and_renew.ensures.any_moment acts first)
