use Rattle.std.proofs.Common.{ℕ, ◌≤◌, [], refl, subst, sym, ◌∙◌}
use Rattle.std.proofs.lemmas.Result.{err_from_is_err_and}
use Rattle.durable_lines.specs.Lines.{lines_in}
use Rattle.meter_journal.specs.Saving.{AreOnDisk, IsSaved}
use Rattle.meter_journal.proofs.FaultLemmas.{relay_fails, save_fails}
use Rattle.meter_journal.proofs.KeepingLemmas.{all_on_disk, crashes_on, lines_on_disk, run_begins}
use Rattle.meter_journal.proofs.KeepingLemmas.{run_on, synced_lines}
use Rattle.meter_journal.proofs.ProgressLemmas.{synced_none}
use Rattle.meter_journal.proofs.RelayedLemmas.{relay_all, relay_on, relay_stops, relaying_begins}
use Rattle.meter_journal.proofs.RelayedLemmas.{stop_before}
use Rattle.turn_lock.proofs.Watching.{watches_trans}
use Rattle.meter_journal.proofs.keeping.keep_lines.Goals as goal

pub saving-init : goal.saving-init
saving-init g c =
    let model = g.F.DurableFile.model in
    let began = c.args.parts.now.file in
    let none = synced_none model (model.identity began) (lines_in (model.seen began)) began []
    (record { number_is = refl; lines = refl }) c.requires.settled in
    record {
      run = run_begins model began c.args.port.now c.history_is_legal.ensures c.requires.settled;
      relayed = λ origin known unrelayed. relaying_begins g.O.Write.contents
          (AreOnDisk model (model.identity began) (lines_in (model.seen began))) origin
          c.args.port.now.known.seen c.args.parts.now.relay none unrelayed;
    }

pub returns-in_err-saved-clause-watches : goal.returns-in_err-saved-clause-watches
returns-in_err-saved-clause-watches g c =
    watches_trans c.args.port.now.known c.saving.port.known c.save.new.port.known
    c.saving.invariant.run.watches c.save.ensures.watches

pub returns-in_err-saved-clause-any_moment : goal.returns-in_err-saved-clause-any_moment
returns-in_err-saved-clause-any_moment g c =
    let model = g.F.DurableFile.model in
    let began = c.args.parts.now.file in
    crashes_on model began c.saving.parts.file c.save.new.file c.args.port.now c.saving.port
    c.save.new.port c.saving.saved.count c.saving.invariant.run c.save.ensures.watches
    c.save.ensures.any_moment

pub returns-in_err-saved-clause-fails : goal.returns-in_err-saved-clause-fails
returns-in_err-saved-clause-fails g c =
    let p = err_from_is_err_and c.from_residual.result c.from_residual.ensures.1 in
    rw (p.1, p.2) (save_fails _ (g.F.DurableFile.model.has_failed c.save.new.file)
    c.in_err-saved.field-0.0 c.save.new.port.bound c.saving.port.bound
    c.save.new.port.known.drawn c.save.ensures.same.bound c.in_err-saved.ensures.turns
    c.in_err-saved.ensures.failed)

pub returns-in_err-saved-clause-relayed : goal.returns-in_err-saved-clause-relayed
returns-in_err-saved-clause-relayed g c =
    let model = g.F.DurableFile.model in
    let began = c.args.parts.now.file in
    let disk = AreOnDisk model (model.identity began) (lines_in (model.seen began)) in
    let p = err_from_is_err_and c.from_residual.result c.from_residual.ensures.1 in
    rw (p.1) (λ origin known unrelayed.
    stop_before g.O.Write.contents disk origin ℕ _ c.saving.port.known.seen
    c.save.new.port.known.seen c.args.parts.now.relay c.saving.parts.relay
    c.save.ensures.watches.sees.seen (c.saving.invariant.relayed origin
    (sym (c.save.ensures.same.origin ∙ c.saving.invariant.run.same.origin) ∙ known) unrelayed))

pub returns-in_err-follow_changes-clause-watches : goal.returns-in_err-follow_changes-clause-watches
returns-in_err-follow_changes-clause-watches g c =
    watches_trans c.args.port.now.known c.saving.port.known c.save.new.port.known
    c.saving.invariant.run.watches c.save.ensures.watches

pub returns-in_err-follow_changes-clause-any_moment
    : goal.returns-in_err-follow_changes-clause-any_moment
returns-in_err-follow_changes-clause-any_moment g c =
    let model = g.F.DurableFile.model in
    let began = c.args.parts.now.file in
    crashes_on model began c.saving.parts.file c.save.new.file c.args.port.now c.saving.port
    c.save.new.port c.saving.saved.count c.saving.invariant.run c.save.ensures.watches
    c.save.ensures.any_moment

pub returns-in_err-follow_changes-clause-fails : goal.returns-in_err-follow_changes-clause-fails
returns-in_err-follow_changes-clause-fails g c =
    let p = err_from_is_err_and c.from_residual-in_err-follow_changes.result
    c.from_residual-in_err-follow_changes.ensures.1 in
    let port = c.save.new.port in
    rw (p.1, p.2) (relay_fails (port.bound ≤ port.known.drawn)
    (g.F.DurableFile.model.has_failed c.save.new.file) c.in_err-follow_changes.field-0.0
    c.in_err-follow_changes.ensures.fault)

pub returns-in_err-follow_changes-clause-relayed : goal.returns-in_err-follow_changes-clause-relayed
returns-in_err-follow_changes-clause-relayed g c =
    let model = g.F.DurableFile.model in
    let began = c.args.parts.now.file in
    let disk = AreOnDisk model (model.identity began) (lines_in (model.seen began)) in
    let run = run_on model began c.saving.parts.file c.save.new.file c.args.port.now c.saving.port
    c.save.new.port c.saving.saved.count c.in_ok-saved.saved.count c.saving.invariant.run
    c.save.ensures.same c.save.ensures.watches c.save.ensures.identity
    c.in_ok-saved.ensures.settled c.in_ok-saved.ensures.saved c.save.ensures.any_moment in
    let p = err_from_is_err_and c.from_residual-in_err-follow_changes.result
    c.from_residual-in_err-follow_changes.ensures.1 in
    rw (p.1) (λ origin known unrelayed.
    relay_stops g.O.Write.contents disk origin ℕ _ c.saving.port.known.seen
    c.save.new.port.known.seen c.in_ok-saved.saved.switches c.args.parts.now.relay
    c.saving.parts.relay c.follow_changes.new.relay
    (all_on_disk model began c.save.new.file c.args.port.now c.save.new.port
    c.in_ok-saved.saved.count run c.in_ok-saved.ensures.count)
    (c.in_ok-saved.ensures.switches origin known)
    (c.saving.invariant.relayed origin
    (sym (c.save.ensures.same.origin ∙ c.saving.invariant.run.same.origin) ∙ known) unrelayed)
    c.in_err-follow_changes.ensures.stopped)

pub announce-requires-clause-synced : goal.announce-requires-clause-synced
announce-requires-clause-synced g c =
    let model = g.F.DurableFile.model in
    let began = c.args.parts.now.file in
    let run = run_on model began c.saving.parts.file c.save.new.file c.args.port.now c.saving.port
    c.save.new.port c.saving.saved.count c.in_ok-saved.saved.count c.saving.invariant.run
    c.save.ensures.same c.save.ensures.watches c.save.ensures.identity
    c.in_ok-saved.ensures.settled c.in_ok-saved.ensures.saved c.save.ensures.any_moment in
    synced_lines model g.L.JournalIdentity.file g.L.JournalIdentity.first began
    c.save.new.port.known.seen c.in_ok-saved.saved.count c.requires.file
    (lines_on_disk model began c.save.new.file c.args.port.now c.save.new.port
    c.in_ok-saved.saved.count run)

pub saving-preserved-then-saved-before : goal.saving-preserved-then-saved-before
saving-preserved-then-saved-before g c =
    let model = g.F.DurableFile.model in
    let began = c.args.parts.now.file in
    let disk = AreOnDisk model (model.identity began) (lines_in (model.seen began)) in
    let run = run_on model began c.saving.parts.file c.save.new.file c.args.port.now c.saving.port
    c.save.new.port c.saving.saved.count c.in_ok-saved.saved.count c.saving.invariant.run
    c.save.ensures.same c.save.ensures.watches c.save.ensures.identity
    c.in_ok-saved.ensures.settled c.in_ok-saved.ensures.saved c.save.ensures.any_moment in
    rw (c.announce.ensures) (record {
      run = run;
      relayed = λ origin at unrelayed.
          let known = c.save.ensures.same.origin ∙ c.saving.invariant.run.same.origin ∙ at in
          relay_on g.O.Write.contents disk origin c.saving.port.known.seen
          c.save.new.port.known.seen c.in_ok-saved.saved.switches c.args.parts.now.relay
          c.saving.parts.relay c.follow_changes.new.relay c.save.ensures.watches.sees.seen
          (all_on_disk model began c.save.new.file c.args.port.now c.save.new.port
          c.in_ok-saved.saved.count run c.in_ok-saved.ensures.count)
          (c.in_ok-saved.ensures.switches origin known)
          (c.saving.invariant.relayed origin at unrelayed)
          c.in_ok-follow_changes.ensures.followed;
    })

pub saving-preserved : goal.saving-preserved
saving-preserved g c =
    let model = g.F.DurableFile.model in
    let began = c.args.parts.now.file in
    let disk = AreOnDisk model (model.identity began) (lines_in (model.seen began)) in
    let run = run_on model began c.saving.parts.file c.save.new.file c.args.port.now c.saving.port
    c.save.new.port c.saving.saved.count c.in_ok-saved.saved.count c.saving.invariant.run
    c.save.ensures.same c.save.ensures.watches c.save.ensures.identity
    c.in_ok-saved.ensures.settled c.in_ok-saved.ensures.saved c.save.ensures.any_moment in
    record {
      run = run;
      relayed = λ origin at unrelayed.
          let known = c.save.ensures.same.origin ∙ c.saving.invariant.run.same.origin ∙ at in
          relay_on g.O.Write.contents disk origin c.saving.port.known.seen
          c.save.new.port.known.seen c.in_ok-saved.saved.switches c.args.parts.now.relay
          c.saving.parts.relay c.follow_changes.new.relay c.save.ensures.watches.sees.seen
          (all_on_disk model began c.save.new.file c.args.port.now c.save.new.port
          c.in_ok-saved.saved.count run c.in_ok-saved.ensures.count)
          (c.in_ok-saved.ensures.switches origin known)
          (c.saving.invariant.relayed origin at unrelayed)
          c.in_ok-follow_changes.ensures.followed;
    }

pub returns-then-is_last-clause-watches : goal.returns-then-is_last-clause-watches
returns-then-is_last-clause-watches g c =
    watches_trans c.args.port.now.known c.saving.port.known c.save.new.port.known
    c.saving.invariant.run.watches c.save.ensures.watches

pub returns-then-is_last-clause-any_moment : goal.returns-then-is_last-clause-any_moment
returns-then-is_last-clause-any_moment g c =
    let model = g.F.DurableFile.model in
    let began = c.args.parts.now.file in
    crashes_on model began c.saving.parts.file c.save.new.file c.args.port.now c.saving.port
    c.save.new.port c.saving.saved.count c.saving.invariant.run c.save.ensures.watches
    c.save.ensures.any_moment

pub returns-then-is_last-clause-all_saved : goal.returns-then-is_last-clause-all_saved
returns-then-is_last-clause-all_saved g c =
    let model = g.F.DurableFile.model in
    let began = c.args.parts.now.file in
    let run = run_on model began c.saving.parts.file c.save.new.file c.args.port.now c.saving.port
    c.save.new.port c.saving.saved.count c.in_ok-saved.saved.count c.saving.invariant.run
    c.save.ensures.same c.save.ensures.watches c.save.ensures.identity
    c.in_ok-saved.ensures.settled c.in_ok-saved.ensures.saved c.save.ensures.any_moment in
    λ acts. subst (λ (n : ℕ). IsSaved model.renews (lines_in (model.seen began)) n
    c.save.new.port.known.seen (model.seen c.save.new.file)) c.in_ok-saved.ensures.count
    (run.saved acts)

pub returns-then-is_last-clause-relayed : goal.returns-then-is_last-clause-relayed
returns-then-is_last-clause-relayed g c =
    let model = g.F.DurableFile.model in
    let began = c.args.parts.now.file in
    let disk = AreOnDisk model (model.identity began) (lines_in (model.seen began)) in
    let run = run_on model began c.saving.parts.file c.save.new.file c.args.port.now c.saving.port
    c.save.new.port c.saving.saved.count c.in_ok-saved.saved.count c.saving.invariant.run
    c.save.ensures.same c.save.ensures.watches c.save.ensures.identity
    c.in_ok-saved.ensures.settled c.in_ok-saved.ensures.saved c.save.ensures.any_moment in
    λ origin known unrelayed.
    relay_all g.O.Write.contents disk origin _ c.in_ok-saved.saved.count
    c.saving.port.known.seen c.save.new.port.known.seen c.in_ok-saved.saved.switches
    c.args.parts.now.relay c.saving.parts.relay c.follow_changes.new.relay
    c.save.ensures.watches.sees.seen
    (all_on_disk model began c.save.new.file c.args.port.now c.save.new.port
    c.in_ok-saved.saved.count run c.in_ok-saved.ensures.count)
    (c.in_ok-saved.ensures.switches origin known)
    (c.saving.invariant.relayed origin
    (sym (c.save.ensures.same.origin ∙ c.saving.invariant.run.same.origin) ∙ known) unrelayed)
    c.in_ok-follow_changes.ensures.followed
