-- The run so far, and what the relay was given in it.
use Rattle.std.specs.Prelude.{◌≡◌, IfSome, Some}
use Rattle.durable_lines.specs.Lines.{lines_in}
use Rattle.relay_core.specs.declared.opening.Opening.{Opening}
use Rattle.meter_journal.specs.Relaying.{OnRelay}
use Rattle.meter_journal.specs.Saving.{AreOnDisk}
use Rattle.meter_journal.proofs.KeepingLemmas.{Run}
use Rattle.meter_journal.proofs.RelayedLemmas.{Relaying}
use Rattle.meter_journal.proofs.keeping.keep_lines.Given as goal

abbrev pub invariant-saving : goal.invariant-saving
invariant-saving g l =
    let model = g.F.DurableFile.model in
    let began = l.initial.parts in
    record {
      run : Run model began.file l.parts.file l.initial.port l.port l.saved.count;
      relayed : (origin : Opening) → l.initial.port.known.origin ≡ Some origin
          → IfSome began.relay (λ relay. relay.given ≡ 0)
          → OnRelay (Relaying g.O.Write.contents (AreOnDisk model (model.identity began.file)
          (lines_in (model.seen began.file))) origin l.port.known.seen) began.relay l.parts.relay;
    }
