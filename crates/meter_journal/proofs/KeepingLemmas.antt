-- The run of a journal's worker: what it leaves of its file, save by save.
use Rattle.std.proofs.Common.{◌≡◌, ℕ, List, length, refl, sym, ◌∙◌, subst, arith}
use Rattle.durable_lines.specs.CrashModel.{LeavesOnly}
use Rattle.durable_lines.specs.FileModel.{FileModel}
use Rattle.durable_lines.specs.Holding.{Holds}
use Rattle.durable_lines.specs.Lines.{lines_in, IsReady}
use Rattle.durable_lines.proofs.HoldingLemmas.{holds_none}
use Rattle.durable_lines.proofs.Moments.{begin, leaves_as, leaves_then}
use Rattle.turn_lock.specs.Calls.{Watches}
use Rattle.turn_lock.specs.Calls.{IsLegal as HasLegal}
use Rattle.turn_lock.specs.Shown.{IsSame}
use Rattle.turn_lock.proofs.Watching.{watches_refl, watches_trans}
use Rattle.shared_meter.specs.Calls.{Calls, IsLegal}
use Rattle.shared_meter.specs.Handed.{MeterPort}
use Rattle.shared_meter.specs.Pending.{lines_of_calls}
use Rattle.meter_journal.specs.Saving.{AreOnDisk, IsFileOf, IsSaved, IsSavedFrom}
use Rattle.meter_journal.proofs.SavingLemmas.{Lines, take_zero, saved_later}

pub same_self : (p : MeterPort) → IsSame p p
same_self p = record {
  lock = refl;
  bound = refl;
  origin = refl;
  number = refl;
  splits = refl;
  joined = refl;
}

pub same_then : (p q r : MeterPort) → IsSame p q → IsSame q r → IsSame p r
same_then p q r one two = record {
  lock = two.lock ∙ one.lock;
  bound = two.bound ∙ one.bound;
  origin = two.origin ∙ one.origin;
  number = two.number ∙ one.number;
  splits = two.splits ∙ one.splits;
  joined = two.joined ∙ one.joined;
}

-- a file has no line of a history yet
pub saved_none : (Renews : List ℕ → List ℕ → Type 0) (calls : Calls) (file : List ℕ)
    → IsSaved Renews (lines_in file) 0 calls file
saved_none Renews calls file = record {
  within = omega arith;
  lines = subst (λ (ls : Lines). Holds Renews (lines_in file) ls file)
      (sym (take_zero (lines_of_calls calls))) (holds_none Renews file);
}

module _ {F : Type 0} (model : FileModel F) where
  -- the run so far: the port was p and is q, the file was `began` and is `now`
  pub record Run (began now : F) (p q : MeterPort) (count : ℕ) : Type 0 where
    pub same : IsSame p q
    pub watches : Watches IsLegal p.known q.known
    pub identity_is : model.identity now ≡ model.identity began
    pub settled : IsReady model now
    pub saved : model.acts
        → IsSaved model.renews (lines_in (model.seen began)) count q.known.seen (model.seen now)
    pub any_moment : model.acts → LeavesOnly model began now
        (IsSavedFrom model.renews 0 (lines_in (model.seen began)) q.known.seen)

  -- before the first save
  pub run_begins : (began : F) (p : MeterPort) → HasLegal IsLegal p.known
      → IsReady model began → Run began began p p 0
  run_begins began p legal settled = record {
    same = same_self p;
    watches = watches_refl p.known legal;
    identity_is = refl;
    settled = settled;
    saved = λ a. saved_none model.renews p.known.seen (model.seen began);
    any_moment = λ a.
        begin model began
        (IsSavedFrom model.renews 0 (lines_in (model.seen began)) p.known.seen)
        (λ c now. (
          0,
          omega arith,
          subst (IsSaved model.renews (lines_in (model.seen began)) 0 p.known.seen)
              (sym ((settled a).durable c now))
              (saved_none model.renews p.known.seen (model.seen began)),
        ));
  }

  -- the crashes of one more save
  pub crashes_on : (began now new : F) (p q r : MeterPort) (count : ℕ) → Run began now p q count
      → Watches IsLegal q.known r.known
      → (model.acts → (first : Lines)
      → IsSaved model.renews first count q.known.seen (model.seen now)
      → LeavesOnly model now new (IsSavedFrom model.renews count first r.known.seen))
      → model.acts → LeavesOnly model began new
      (IsSavedFrom model.renews 0 (lines_in (model.seen began)) r.known.seen)
  crashes_on began now new p q r count run watches leaves a =
      let first = lines_in (model.seen began) in
      leaves_then model began now new (IsSavedFrom model.renews 0 first r.known.seen)
      (leaves_as model began now (IsSavedFrom model.renews 0 first q.known.seen)
      (IsSavedFrom model.renews 0 first r.known.seen)
      (λ c from. (
        from.0,
        from.1,
        saved_later model.renews first from.0 q.known.seen r.known.seen c watches.sees.seen
            from.2,
      ))
      (run.any_moment a))
      (leaves_as model now new (IsSavedFrom model.renews count first r.known.seen)
      (IsSavedFrom model.renews 0 first r.known.seen)
      (λ c from. (from.0, omega arith, from.2)) (leaves a first (run.saved a)))

  -- one more save
  pub run_on : (began now new : F) (p q r : MeterPort) (count more : ℕ) → Run began now p q count
      → IsSame q r → Watches IsLegal q.known r.known
      → model.identity new ≡ model.identity now → IsReady model new
      → (model.acts → (first : Lines)
      → IsSaved model.renews first count q.known.seen (model.seen now)
      → IsSaved model.renews first more r.known.seen (model.seen new))
      → (model.acts → (first : Lines)
      → IsSaved model.renews first count q.known.seen (model.seen now)
      → LeavesOnly model now new (IsSavedFrom model.renews count first r.known.seen))
      → Run began new p r more
  run_on began now new p q r count more run same watches one settled saved leaves = record {
    same = same_then p q r run.same same;
    watches = watches_trans p.known q.known r.known run.watches watches;
    identity_is = one ∙ run.identity_is;
    settled = settled;
    saved = λ a. saved a (lines_in (model.seen began)) (run.saved a);
    any_moment = crashes_on began now new p q r count run watches leaves;
  }

  -- the lines that a save has put on the disk, as those of the file that the run began with
  pub lines_on_disk : (began now : F) (p q : MeterPort) (count : ℕ) → Run began now p q count
      → AreOnDisk model (model.identity began) (lines_in (model.seen began)) q.known.seen count
  lines_on_disk began now p q count run a = record {
    file = model.seen now;
    kept = subst (λ (n : ℕ). model.stored n (model.seen now)) run.identity_is (run.settled a).kept;
    saved = run.saved a;
  }

  -- all lines of the history, after a save
  pub all_on_disk : (began now : F) (p q : MeterPort) (count : ℕ) → Run began now p q count
      → count ≡ length (lines_of_calls q.known.seen)
      → AreOnDisk model (model.identity began) (lines_in (model.seen began)) q.known.seen
      (length (lines_of_calls q.known.seen))
  all_on_disk began now p q count run all =
      subst (λ n. AreOnDisk model (model.identity began) (lines_in (model.seen began)) q.known.seen
      n) all (lines_on_disk began now p q count run)

  -- and as those of the file with a number
  pub synced_lines : (number : ℕ) (first : Lines) (began : F) (calls : Calls) (count : ℕ)
      → IsFileOf model number first began
      → AreOnDisk model (model.identity began) (lines_in (model.seen began)) calls count
      → AreOnDisk model number first calls count
  synced_lines number first began calls count its are =
      subst (λ (n : ℕ). AreOnDisk model n first calls count) its.number_is
      (subst (λ (ls : Lines). AreOnDisk model (model.identity began) ls calls count) its.lines are)
