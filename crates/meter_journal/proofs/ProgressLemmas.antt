-- The number of lines on the disk.
use Rattle.std.proofs.Common.{◌≡◌, ℕ, subst, sym}
use Rattle.durable_lines.specs.FileModel.{FileModel}
use Rattle.durable_lines.specs.Lines.{IsReady}
use Rattle.turn_lock.specs.Calls.{IsLegal}
use Rattle.turn_lock.specs.History.{StartsWith}
use Rattle.turn_lock.specs.Shown.{ShownNote}
use Rattle.relay_core.specs.declared.opening.Opening.{Opening}
use Rattle.relay_events.specs.declared.event.Event.{Event}
use Rattle.relay_events.specs.declared.reply.Reply.{Reply}
use Rattle.shared_meter.specs.Calls.{Calls}
use Rattle.shared_meter.specs.Calls.{IsLegal as IsMeterLegal}
use Rattle.shared_meter.specs.Handed.{MeterPort}
use Rattle.meter_journal.specs.Saving.{AreOnDisk, AreStored, IsFileOf, IsSaved}
use Rattle.meter_journal.proofs.KeepingLemmas.{saved_none}
use Rattle.meter_journal.proofs.SavingLemmas.{Lines, saved_later}

module _ {F : Type 0} (model : FileModel F) (number : ℕ) (first : Lines) where
  -- a settled file has no line of a history yet
  pub synced_none : (file : F) (calls : Calls) → IsFileOf model number first file
      → IsReady model file → AreOnDisk model number first calls 0
  synced_none file calls its settled a = record {
    file = model.seen file;
    kept = subst (λ (n : ℕ). model.stored n (model.seen file)) its.number_is (settled a).kept;
    saved = subst (λ (ls : Lines). IsSaved model.renews ls 0 calls (model.seen file)) its.lines
        (saved_none model.renews calls (model.seen file));
  }

  -- the lines of a history that a port has seen are those of a legal one
  pub stored_by : (p : MeterPort) (n : ℕ) → IsLegal IsMeterLegal p.known
      → AreOnDisk model number first p.known.seen n → AreStored model number first n
  stored_by p n legal on_disk = record {
    origin = legal.origin;
    calls = p.known.seen;
    lawful = legal.legal_history;
    on_disk = on_disk;
  }

  -- the first lines of a history are those of a longer one
  pub synced_later : (calls longer : Calls) (n : ℕ) → StartsWith longer calls
      → AreOnDisk model number first calls n → AreOnDisk model number first longer n
  synced_later calls longer n starts are a =
      let is = are a in
      record {
        file = is.file;
        kept = is.kept;
        saved = saved_later model.renews first n calls longer is.file starts is.saved;
      }

  -- lines of the history that a note has are those of a history that a port has seen since
  pub synced_as : (note old : ShownNote Event Reply Opening) (seen now : Calls) (n : ℕ)
      → note ≡ old → StartsWith seen note.seen → now ≡ seen
      → AreOnDisk model number first old.seen n → AreOnDisk model number first now n
  synced_as note old seen now n same starts is_now synced =
      let S : ShownNote Event Reply Opening → Type 0 = λ x. StartsWith seen x.seen in
      subst (λ (calls : Calls). AreOnDisk model number first calls n) (sym is_now)
      (synced_later old.seen seen n (subst S same starts) synced)
