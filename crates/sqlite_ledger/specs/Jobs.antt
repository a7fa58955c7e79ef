-- The jobs of a ledger's file.
--     select_jobs       the query of all jobs
--     IsJobRow          the place of a job, its name, its address and its verb
--     AreJobRows        the rows of jobs, in the order of their places
--     ListsJobs         the query of all jobs shows these
--     ShowsJobs         it does, and the campaign has their number
use Rattle.std.specs.Prelude.{◌≡◌, ◌+◌, ℕ, pos, List, [], ◌∷◌, codes, length, ⊤}
use Rattle.sqlite.specs.declared.types.Value.TheVariants.{Int, Text as Words}
use Rattle.sqlite.specs.Order.{Row, column}
use Rattle.sqlite.specs.State.{State, Shown}
use Rattle.client_core.specs.declared.job.Job.{Job}
use Rattle.client_core.specs.Verbs.{verb_word}
use Rattle.sqlite_ledger.specs.Campaigns.{ShowsCampaign}

-- the query of all jobs, in the order of their places
abbrev pub select_jobs : List ℕ
select_jobs = codes "SELECT place, name, address, verb FROM job ORDER BY place"

-- whether a row is that of a job at a place
pub record IsJobRow (row : Row) (place : ℕ) (job : Job) : Type 0 where
  pub place_is : column row 0 ≡ Int (pos place)
  pub name_is : column row 1 ≡ Words job.id
  pub address_is : column row 2 ≡ Words job.address
  pub verb_is : column row 3 ≡ Words (verb_word job.verb)

-- whether the rows are those of these jobs, one for each job, where the first row has this place
-- and each other one the next place
abbrev pub AreJobRows : ℕ → List Row → List Job → Type 0
AreJobRows place [] [] = ⊤
AreJobRows place (row ∷ rows) (job ∷ jobs) = IsJobRow row place job
    × AreJobRows (place + 1) rows jobs
AreJobRows place rows jobs = ⊥

-- whether the query of all jobs shows these jobs, in their order, and no others
pub record ListsJobs (before after : State) (jobs : List Job) : Type 0 where
  pub rows : List Row
  pub shown : Shown select_jobs [] before after rows
  pub jobs_are : AreJobRows 0 rows jobs

-- whether the query of all jobs shows these jobs, and then the query of the campaign one row, with
-- the version of the tables and the number of these jobs
pub record ShowsJobs {H : Type 0} (state_of : H → State) (before after : H) (jobs : List Job)
    : Type 0 where
  pub listed : H
  pub lists : ListsJobs (state_of before) (state_of listed) jobs
  pub campaign : ShowsCampaign (state_of listed) (state_of after) (length jobs)
