-- A crash after a save leaves the lines that it has put on the disk, whatever saves came next.
use Rattle.std.proofs.Common.{◌≡◌, ℕ, zero, suc, ◌≤◌, List, [], ◌++◌, length, Ok, sym, ap, subst}
use Rattle.std.proofs.Common.{Result, Err, IfOk}
use Rattle.std.proofs.Common.{◌∙◌, arith, le_refl, append-nil, append_assoc, take}
use Rattle.crashed_runs.specs.Answers.{changing_calls}
use Rattle.crashed_runs.specs.Fronts.{run_events}
use Rattle.crashed_runs.specs.Saves.{AreSaves, ContinuesAnswered, IsSave, RenewsJournals, Stand}
use Rattle.crashed_runs.specs.Saves.{count_after}
use Rattle.crashed_runs.proofs.AnswerLemmas.{changing_append, no_changing, selection_kept}
use Rattle.crashed_runs.proofs.FrontLemmas.{front_continues}
use Rattle.durable_lines.specs.CrashModel.{LeavesOnly}
use Rattle.durable_lines.specs.FileModel.{FileModel}
use Rattle.durable_lines.specs.Holding.{HoldsAfter}
use Rattle.durable_lines.specs.Lines.{lines_in, IsSettled, IsText}
use Rattle.durable_lines.proofs.Moments.{begin, leaves_as, leaves_then}
use Rattle.journal_files.specs.Journals.{Continues, changing}
use Rattle.journal_files.specs.Renewals.{IsRenewedAs}
use Rattle.meter_journal.specs.Saving.{IsSaved, IsSavedFrom}
use Rattle.meter_journal.specs.declared.fault.JournalFault.{JournalFault}
use Rattle.meter_journal.specs.declared.saving.Saved.{Saved}
use Rattle.meter_journal.proofs.SavingLemmas.{saved_later}
use Rattle.relay_recorder.specs.Recording.{Recording}
use Rattle.relay_recorder.specs.declared.trace.Trace.{Trace}
use Rattle.shared_meter.specs.Calls.{Calls, IsLegal}
use Rattle.shared_meter.specs.Handed.{MeterPort}
use Rattle.shared_meter.specs.Pending.{lines_of_calls}
use Rattle.trace_player.specs.Journals.{IsJournal}
use Rattle.trace_player.specs.Resuming.{world_of}
use Rattle.trace_player.specs.Traces.{trace_of}
use Rattle.trace_player.specs.Written.{AreTraced}
use Rattle.turn_lock.specs.Calls.{Watches}
use Rattle.turn_lock.specs.History.{StartsWith}

starts_self : (calls : Calls) → StartsWith calls calls
starts_self calls = ([], sym (append-nil calls))

starts_then : (long mid short : Calls) → StartsWith long mid → StartsWith mid short
    → StartsWith long short
starts_then long mid short one two = (
  two.0 ++ one.0,
  one.1 ∙ ap (λ (cs : Calls). cs ++ one.0) two.1 ∙ append_assoc short two.0 one.0,
)

module _ {F : Type 0} (model : FileModel F) (first : List (List ℕ)) where
  -- what is known after saves
  pub record Stays (old new : Stand F) : Type 0 where
    pub longer : StartsWith new.calls old.calls
    pub more : old.count ≤ new.count
    pub leaves : LeavesOnly model old.file new.file
        (IsSavedFrom model.renews old.count first new.calls)

  -- before any further save
  stays_still : (old : Stand F) → IsSettled model old.file
      → IsSaved model.renews first old.count old.calls (model.seen old.file) → Stays old old
  stays_still old settled saved = record {
    longer = starts_self old.calls;
    more = le_refl old.count;
    leaves = begin model old.file (IsSavedFrom model.renews old.count first old.calls)
        (λ c now. (
          old.count,
          le_refl old.count,
          subst (IsSaved model.renews first old.count old.calls)
              (sym (settled.durable c now)) saved,
        ));
  }

  -- after one more
  stays_on : (old mid new : Stand F) → Stays old mid → IsSave model first mid new → Stays old new
  stays_on old mid new stays save = record {
    longer = starts_then new.calls mid.calls old.calls save.longer stays.longer;
    more = omega (arith, stays.more, save.more);
    leaves = leaves_then model old.file mid.file new.file
        (IsSavedFrom model.renews old.count first new.calls)
        (leaves_as model old.file mid.file (IsSavedFrom model.renews old.count first mid.calls)
        (IsSavedFrom model.renews old.count first new.calls)
        (λ c from. (
          from.0,
          from.1,
          saved_later model.renews first from.0 mid.calls new.calls c save.longer from.2,
        ))
        stays.leaves)
        (leaves_as model mid.file new.file (IsSavedFrom model.renews mid.count first new.calls)
        (IsSavedFrom model.renews old.count first new.calls)
        (λ c from. (from.0, omega (arith, from.1, stays.more), from.2)) save.any_moment);
  }

  pub stays_after : (saves : ℕ) (old new : Stand F) → AreSaves model first saves old new
      → Stays old old → Stays old new
  stays_after zero old new same stays = subst (λ (s : Stand F). Stays old s) (sym same) stays
  stays_after (suc saves) old new more stays =
      stays_on old more.0 new (stays_after saves old more.0 more.1 stays) more.2

  -- a crash after saves leaves the lines that the file held before them
  pub crash_leaves : (saves : ℕ) (old new : Stand F) (c : List ℕ) → IsSettled model old.file
      → IsSaved model.renews first old.count old.calls (model.seen old.file)
      → AreSaves model first saves old new → model.left_since new.file (model.moment old.file) c
      → StartsWith new.calls old.calls × IsSavedFrom model.renews old.count first new.calls c
  crash_leaves saves old new c settled saved are crash =
      let stays = stays_after saves old new are (stays_still old settled saved) in
      (stays.longer, stays.leaves.each c crash)

-- ---- files that are renewed as journals are

holds_as : (R S : List ℕ → List ℕ → Type 0) → ((old new : List ℕ) → R old new → S old new)
    → (first : List (List ℕ)) (renewals : ℕ) (lines : List (List ℕ)) (bytes : List ℕ)
    → HoldsAfter R first renewals lines bytes → HoldsAfter S first renewals lines bytes
holds_as R S weaker first zero lines bytes holds = holds
holds_as R S weaker first (suc n) lines bytes rebased = record {
  base = rebased.base;
  rest = rebased.rest;
  all = rebased.all;
  old = rebased.old;
  held = holds_as R S weaker first n rebased.base rebased.old rebased.held;
  renewed = rebased.renewed;
  renewal = weaker rebased.old rebased.renewed rebased.renewal;
  appended = rebased.appended;
}

pub saved_as : {F : Type 0} (model : FileModel F) → RenewsJournals model
    → (first : List (List ℕ)) (n : ℕ) (calls : Calls) (c : List ℕ)
    → IsSaved model.renews first n calls c → IsSaved IsRenewedAs first n calls c
saved_as model renews first n calls c saved = record {
  within = saved.within;
  lines = (
    saved.lines.0,
    holds_as model.renews IsRenewedAs renews first saved.lines.0
        (take n (lines_of_calls calls)) c saved.lines.1,
  );
}

-- a meter that is resumed from a file with the lines of a front has all its changing calls
pub answered_continue : (count : ℕ) (device began left : List ℕ) (trace : Trace)
    (answered short calls : Calls) (recorder : Recording) → IsText began → IsJournal began
    → trace_of began ≡ Ok trace → AreTraced (changing (run_events calls))
    → StartsWith short answered → length (lines_of_calls answered) ≤ count
    → StartsWith calls short × IsSavedFrom IsRenewedAs count (lines_in began) calls left
    → (resumed : Continues device left recorder)
    → ContinuesAnswered count answered calls (world_of trace) (world_of resumed.trace)
answered_continue count device began left trace answered short calls recorder text journal told fit
    begins enough saved resumed =
    let found = front_continues count device began left trace calls recorder text journal told fit
    saved.1 resumed in
    record {
      continues = found;
      kept = selection_kept changing_calls changing_append no_changing calls answered found.front
          found.rest (starts_then calls short answered saved.0 begins) found.all
          (omega (arith, enough, found.enough));
    }

-- a save counts at least the lines that the file held before
counts_more : (taken lines : ℕ) (result : Result Saved JournalFault)
    → IfOk result (λ saved. saved.count ≡ lines) → taken ≤ lines → taken ≤ count_after taken result
counts_more taken lines (Ok saved) counted within = omega (arith, counted, within)
counts_more taken lines (Err fault) counted within = le_refl taken

-- a call of `save` is a save
pub save_counts : {F : Type 0} (model : FileModel F) (first : List (List ℕ)) (old new : F)
    (p q : MeterPort) (taken : ℕ) (result : Result Saved JournalFault)
    → Watches IsLegal p.known q.known
    → IfOk result (λ saved. saved.count ≡ length (lines_of_calls q.known.seen))
    → IsSaved model.renews first taken p.known.seen (model.seen old)
    → LeavesOnly model old new (IsSavedFrom model.renews taken first q.known.seen)
    → IsSave model first (record { file = old; calls = p.known.seen; count = taken })
    (record { file = new; calls = q.known.seen; count = count_after taken result })
save_counts model first old new p q taken result watches counted saved leaves =
    let later = saved_later model.renews first taken p.known.seen q.known.seen (model.seen old)
    watches.sees.seen saved in
    record {
      longer = watches.sees.seen;
      more = counts_more taken (length (lines_of_calls q.known.seen)) result counted later.within;
      any_moment = leaves;
    }
