-- The row of the table `campaign`.
--     select_campaign   the query of this row
--     IsCampaignRow     it has the version of the tables, and the number of jobs
--     IsCampaign        it is the only row
--     ShowsCampaign     the query shows such a row alone
use Rattle.std.specs.Prelude.{◌≡◌, ℕ, pos, List, [], ◌∷◌, codes}
use Rattle.sqlite.specs.declared.types.Value.TheVariants.{Int}
use Rattle.sqlite.specs.Order.{Row, column}
use Rattle.sqlite.specs.State.{State, Shown}

-- the query of the version and the number of jobs
abbrev pub select_campaign : List ℕ
select_campaign = codes "SELECT version, jobs FROM campaign"

-- the version of the tables of a ledger
abbrev pub ledger_version : ℕ
ledger_version = 1

-- whether a row has this version and this number of jobs
abbrev pub IsCampaignRow : Row → ℕ → Type 0
IsCampaignRow row jobs = (column row 0 ≡ Int (pos ledger_version))
    × (column row 1 ≡ Int (pos jobs))

-- whether the rows are one, which has this version and this number of jobs
abbrev pub IsCampaign : List Row → ℕ → Type 0
IsCampaign (row ∷ []) jobs = IsCampaignRow row jobs
IsCampaign rows jobs = ⊥

-- whether the query of the campaign shows one row, with this version and this number of jobs
pub record ShowsCampaign (before after : State) (jobs : ℕ) : Type 0 where
  pub rows : List Row
  pub shown : Shown select_campaign [] before after rows
  pub is_campaign : IsCampaign rows jobs
