use Rattle.std.proofs.Common.{◌≡◌, List, false, subst, sym, ◌∙◌}
use Rattle.sqlite.specs.Held.{Held, state}
use Rattle.sqlite.specs.State.{HasCleanDisk}
use Rattle.campaign_ledger.specs.declared.entry.LedgerEntry.{LedgerEntry}
use Rattle.sqlite_ledger.specs.Lines.{HasLedger}
use Rattle.sqlite_ledger.proofs.ReadLemmas.{has_tables}
use Rattle.sqlite_ledger.proofs.opening.open_book.Goals as goal

pub returns-in-Ok-new-clause-ledger : goal.returns-in-Ok-new-clause-ledger
returns-in-Ok-new-clause-ledger g c has clean =
    let of = λ (conn : Held g.row.S.Denot). state g.S.Store conn in
    let jobs = c.args.jobs.now in
    let same = c.in-Ok.ensures.ledger_unchanged has in
    let went = (c.in-Ok.ensures.tables_unchanged (has_tables c.args.conn.schema has)).0 in
    let old : c.in-Ok.is_new ≡ false = cc in
    let book = c.new-in-Ok-new.ensures.book ∙ c.in-Ok-new.ensures.ok.0 in
    let entries = c.new-in-Ok-new.ensures.entries in
    let read = c.in-Ok-read_ledger.ensures.ledger
    (subst (λ conn. HasCleanDisk (of conn)) book clean) old in
    subst (λ conn. HasLedger of conn c.new-in-Ok-new.result.book jobs
    c.new-in-Ok-new.result.entries) same
    (subst (λ now. HasLedger of c.create_if_empty.new.conn now jobs
    c.new-in-Ok-new.result.entries) (sym book)
    (subst (λ (found : List LedgerEntry). HasLedger of c.create_if_empty.new.conn
    c.read_ledger.new.conn jobs found) (sym entries) read))
