use Rattle.std.proofs.Common.{◌≡◌, ◌∙◌, ℕ, List, Option, None, replicate, subst, sym}
use Rattle.sqlite_ledger.specs.Lines.{IsTimeRow}
use Rattle.sqlite_ledger.specs.Readings.{Enters}
use Rattle.sqlite_ledger.proofs.EntryLemmas.{enters_length, none_only, whole_slice}
use Rattle.sqlite_ledger.proofs.reading.times_of.Goals as goal

pub returns-clause-times : goal.returns-clause-times
returns-clause-times c =
    let len = c.in_ok-times.times.len in
    let rows = c.args.rows.now in
    let was = c.deref_mut.result.now in
    let new = c.enter_times.new.times in
    let enters = c.in_ok-enter_times.ensures in
    let blank : was ≡ replicate c.args.count None =
    c.deref_mut.ensures.value ∙ c.in_ok-times.ensures.items_if_clones_equal
    (none_only _ (λ x same. same)) in
    let long = enters_length IsTimeRow rows was new enters ∙ c.deref_mut.ensures.len in
    subst (λ (times : List (Option ℕ)). Enters IsTimeRow rows (replicate c.args.count None) times)
    (sym (whole_slice new _ len long))
    (subst (λ (old : List (Option ℕ)). Enters IsTimeRow rows old new) blank enters)
