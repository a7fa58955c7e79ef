use Rattle.meter_journal.proofs.ProgressLemmas.{stored_by, synced_none}
use Rattle.meter_journal.proofs.progress.JournalProgress.new.Goals as goal

pub new-requires : goal.new-requires
new-requires g c =
    let L = g.L.JournalIdentity in
    stored_by g.F.DurableFile.model L.file L.first c.args.port.now 0 c.history_is_legal.ensures
    (synced_none g.F.DurableFile.model L.file L.first c.args.file.now c.args.port.now.known.seen
    c.requires.file c.requires.settled)

pub new-requires-2-clause-synced : goal.new-requires-2-clause-synced
new-requires-2-clause-synced g c =
    let L = g.L.JournalIdentity in
    synced_none g.F.DurableFile.model L.file L.first c.args.file.now c.args.port.now.known.seen
    c.requires.file c.requires.settled

pub returns-clause-stored : goal.returns-clause-stored
returns-clause-stored g c =
    let L = g.L.JournalIdentity in
    stored_by g.F.DurableFile.model L.file L.first c.args.port.now 0 c.history_is_legal.ensures
    (synced_none g.F.DurableFile.model L.file L.first c.args.file.now c.args.port.now.known.seen
    c.requires.file c.requires.settled)
