-- The query of all jobs, whose rows are read one at a time.
--     HasBegun          the query is at its start, and nothing has changed
--     GivesJob          the next row is that of a job
--     GivesAll          there is no row more
use Rattle.std.specs.Prelude.{ℕ, List, [], ◌∷◌, ◌++◌}
use Rattle.sqlite_trees.specs.declared.store.Store.{Ghosts}
use Rattle.sqlite.specs.Given.{HasGiven}
use Rattle.sqlite.specs.Held.{Held, state}
use Rattle.sqlite.specs.Order.{Row}
use Rattle.sqlite.specs.State.{IsUnchanged, Shown}
use Rattle.client_core.specs.declared.job.Job.{Job}
use Rattle.sqlite_ledger.specs.Jobs.{IsJobRow, select_jobs}

module _ {S : Type 0} (g : Ghosts S) where
  -- whether the query is at its start, and nothing has changed since a state
  abbrev pub HasBegun : Held S → Held S → Type 0
  HasBegun start now = HasGiven g select_jobs [] now []
      × IsUnchanged (state g start) (state g now)

  -- whether the next row that the query gives is that of this job
  abbrev pub GivesJob : Held S → Held S → ℕ → Job → Type 0
  GivesJob old new place job = (given : List Row) → HasGiven g select_jobs [] old given
      → (row : Row) × HasGiven g select_jobs [] new (given ++ row ∷ []) × IsJobRow row place job

  -- whether the rows that the query gave are all that it shows
  abbrev pub GivesAll : Held S → Held S → Type 0
  GivesAll old new = (given : List Row) → HasGiven g select_jobs [] old given
      → Shown select_jobs [] (state g old) (state g new) given
