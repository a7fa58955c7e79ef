-- The query of all jobs, whose rows are read one at a time.
use Rattle.std.proofs.Common.{◌≡◌, ◌+◌, ◌++◌, ◌∷◌, ◌∙◌, ℕ, List, [], None, Ok, length, sym, ap, subst, arith}
use Rattle.sqlite_trees.specs.declared.store.Store.{Ghosts}
use Rattle.sqlite.specs.Effect.{Database}
use Rattle.sqlite.specs.Given.{HasGiven}
use Rattle.sqlite.specs.Held.{Held, state}
use Rattle.sqlite.specs.Listing.{understood, reads_listing, IsSourceOf}
use Rattle.sqlite.specs.Order.{Row}
use Rattle.sqlite.specs.State.{State, IsUnchanged, Shown, ShowsRows, Survives, CommitsShowing}
use Rattle.sqlite.proofs.Callers.{IsPlain, never_commits}
use Rattle.sqlite.proofs.StateLemmas.{survives_weaker}
use Rattle.client_core.specs.declared.job.Job.{Job}
use Rattle.sqlite_ledger.specs.Jobs.{AreJobRows, IsJobRow, ListsJobs, select_jobs}
use Rattle.sqlite_ledger.specs.Schema.{ledger_schema}
use Rattle.sqlite_ledger.specs.Streams.{GivesAll, GivesJob, HasBegun}
use Rattle.sqlite_ledger.proofs.LineLemmas.{jobs_push}
use Rattle.sqlite_ledger.proofs.ReadLemmas.{jobs_plain}

-- a query commits nothing
pub commits_nothing : (sql : List ℕ) (params : Row) (old new : State)
    → IsPlain (understood old.now.schema sql) → Survives old new (CommitsShowing sql params old)
    → Survives old new (λ _. ⊥)
commits_nothing sql params old new plain =
    survives_weaker old new _ _ (λ _ db. never_commits sql params old db plain)

-- what two calls leave unchanged
pub unchanged_both : (a b c : State) → IsUnchanged a b → IsUnchanged b c → IsUnchanged a c
unchanged_both a b c first second = (
  record {
    was_open = first.0.was_open;
    is_open = second.0.is_open;
    now_is = second.0.now_is ∙ first.0.now_is;
    committed_is = second.0.committed_is ∙ first.0.committed_is;
    mode = second.0.mode ∙ first.0.mode;
  },
  record {
    changes = second.1.changes ∙ first.1.changes;
    last_rowid = second.1.last_rowid ∙ first.1.last_rowid;
  },
  second.2 ∙ first.2,
)

-- what a query shows after calls that left all unchanged, it shows of the state before them
pub shown_since : (sql : List ℕ) (old mid new : State) (rows : List Row)
    → IsPlain (understood old.now.schema sql) → IsUnchanged old mid → Shown sql [] mid new rows
    → Shown sql [] old new rows
unfolding Shown
shown_since sql old mid new rows plain same h =
    let c = h.0 in
    let is : understood old.now.schema sql ≡ Ok c =
    ap (λ (d : Database). understood d.schema sql) (sym same.0.now_is) ∙ h.1.is in
    let none : c.returning ≡ None = (subst IsPlain is plain).0 in
    let it = subst (ShowsRows mid new sql c _ rows) none h.2 in (
      c,
      record { is = is; whole = h.1.whole; given = h.1.given; now = h.1.now },
      subst (ShowsRows old new sql c _ rows) (sym none) (
        it.0,
        subst (λ (d : Database). IsSourceOf (reads_listing d.schema sql) d it.0) same.0.now_is it.1,
        it.2,
        unchanged_both old mid new same it.3,
      ),
    )

-- the rows so far are those of these jobs, and nothing has changed since the start
pub record HasListed {S : Type 0} (g : Ghosts S) (start now : Held S) (jobs : List Job)
    : Type 0 where
  pub given : List Row
  pub has : HasGiven g select_jobs [] now given
  pub are : AreJobRows 0 given jobs
  pub same : IsUnchanged (state g start) (state g now)

-- at the start there is no row yet
pub lists_none : {S : Type 0} (g : Ghosts S) (start now : Held S) → HasBegun g start now
    → HasListed g start now []
lists_none g start now begun = record {
  given = [];
  has = begun.0;
  are = tt;
  same = begun.1;
}

module _ {S : Type 0} (g : Ghosts S) (start now new : Held S) (jobs : List Job)
    (listed : HasListed g start now jobs) where
  -- one more row is that of one more job
  pub lists_more : (place : ℕ) (job : Job) → length jobs ≡ place
      → IsUnchanged (state g now) (state g new) → GivesJob g now new place job
      → HasListed g start new (jobs ++ job ∷ [])
  lists_more place job count same gives =
      let more = gives listed.given listed.has in
      let here : place ≡ 0 + length jobs = omega (arith, count) in
      record {
        given = listed.given ++ more.0 ∷ [];
        has = more.1;
        are = jobs_push 0 listed.given jobs more.0 job listed.are
            (subst (λ (at : ℕ). IsJobRow more.0 at job) here more.2);
        same = unchanged_both (state g start) (state g now) (state g new) listed.same same;
      }

  -- there are no more rows
  pub lists_all : (state g start).now.schema ≡ ledger_schema → GivesAll g now new
      → ListsJobs (state g start) (state g new) jobs
  lists_all has gives = record {
    rows = listed.given;
    shown = shown_since select_jobs (state g start) (state g now) (state g new) listed.given
        (rw has jobs_plain) listed.same (gives listed.given listed.has);
    jobs_are = listed.are;
  }
