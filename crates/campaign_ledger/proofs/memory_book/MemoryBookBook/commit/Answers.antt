use Rattle.std.proofs.Common.{rules}
use Rattle.campaign_ledger.specs.MemoryBook.{EntersMarks}
use Rattle.campaign_ledger.proofs.MemoryLemmas.{marks_advance, marks_fresh, marks_gone}
use Rattle.campaign_ledger.proofs.MemoryLemmas.{outcomes_advance, outcomes_come}
use Rattle.campaign_ledger.proofs.memory_book.MemoryBookBook.commit.Goals as goal

pub returns-clause-fresh : goal.returns-clause-fresh
returns-clause-fresh c honest place among marked =
    let marks = c.args.marks.now in
    let old = c.args.self.now.entries in
    let mid = c.enter_marks.new.entries.items in
    let entered : EntersMarks marks old mid = search rules in
    marks_fresh marks old mid entered place among marked

pub returns-clause-durable : goal.returns-clause-durable
returns-clause-durable c honest place among =
    let marks = c.args.marks.now in
    let old = c.args.self.now.entries in
    let mid = c.enter_marks.new.entries.items in
    let entered : EntersMarks marks old mid = search rules in
    let advances = outcomes_advance c.args.outcomes.now mid c.enter_outcomes.new.entries.items
    c.in_ok-enter_outcomes.ensures place in
    advances.gone (marks_gone marks old mid entered place among)

pub returns-clause-recorded : goal.returns-clause-recorded
returns-clause-recorded c honest =
    outcomes_come c.args.outcomes.now c.enter_marks.new.entries.items
    c.enter_outcomes.new.entries.items c.in_ok-enter_outcomes.ensures

pub returns-clause-remains_marked : goal.returns-clause-remains_marked
returns-clause-remains_marked c honest other marked =
    let marks = c.args.marks.now in
    let old = c.args.self.now.entries in
    let mid = c.enter_marks.new.entries.items in
    let entered : EntersMarks marks old mid = search rules in
    let first = marks_advance marks old mid entered other in
    let second = outcomes_advance c.args.outcomes.now mid c.enter_outcomes.new.entries.items
    c.in_ok-enter_outcomes.ensures other in
    second.gone (first.gone marked)

pub returns-clause-remains_kept : goal.returns-clause-remains_kept
returns-clause-remains_kept c honest other kept is =
    let marks = c.args.marks.now in
    let old = c.args.self.now.entries in
    let mid = c.enter_marks.new.entries.items in
    let entered : EntersMarks marks old mid = search rules in
    let first = marks_advance marks old mid entered other in
    let second = outcomes_advance c.args.outcomes.now mid c.enter_outcomes.new.entries.items
    c.in_ok-enter_outcomes.ensures other in
    second.came kept (first.came kept is)
