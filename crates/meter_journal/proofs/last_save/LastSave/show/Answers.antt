use Rattle.std.proofs.Common.{ap, ◌∙◌}
use Rattle.shared_meter.specs.Handed.{MeterPort}
use Rattle.shared_meter.proofs.SettlingLemmas.{durable_at_once}
use Rattle.meter_journal.specs.Saving.{AreOnDisk}
use Rattle.meter_journal.proofs.ProgressLemmas.{synced_as}
use Rattle.meter_journal.proofs.last_save.LastSave.show.Goals as goal

pub invariant_of-self : goal.invariant_of-self
invariant_of-self g c =
    let L = g.L.JournalIdentity in (
      c.tell.ensures.note.0 ∙ (c.meet.ensures.lock.0
          ∙ (ap (λ (p : MeterPort). p.lock) c.tell-own.ensures.unchanged ∙ c.requires)),
      synced_as g.F.DurableFile.model L.file L.first
          c.replace-note.result c.self.inside.note
          c.meet.new.self.known.seen c.tell.result.seen c.self.inside.count
          c.replace-note.ensures.value c.meet.ensures.meets.note_seen c.tell.ensures.note.2
          c.self.invariant.1,
    )

pub returns-clause-durable : goal.returns-clause-durable
returns-clause-durable g c =
    let L = g.L.JournalIdentity in
    durable_at_once (AreOnDisk g.F.DurableFile.model L.file L.first)
    c.tell.new.self.known.seen c.self.inside.count
    (synced_as g.F.DurableFile.model L.file L.first c.replace-note.result c.self.inside.note
    c.meet.new.self.known.seen c.tell.new.self.known.seen c.self.inside.count
    c.replace-note.ensures.value c.meet.ensures.meets.note_seen
    (ap (λ (p : MeterPort). p.known.seen) c.tell.ensures.unchanged) c.self.invariant.1)
