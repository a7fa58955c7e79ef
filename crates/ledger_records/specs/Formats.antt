-- The names of the formats.
--     IsNamed     the format of a name, if there is one
use Rattle.std.specs.Prelude.{◌≡◌, ◌≢◌, ℕ, codes, List, Option, Some}
use Rattle.ledger_records.specs.declared.format.LedgerFormat.{LedgerFormat}
use Rattle.ledger_records.specs.declared.format.LedgerFormat.TheVariants.{State, Csv, Json}

-- whether this is the format of the name: comma-separated values or JSON; without a name, or for
-- another one, the state
pub record IsNamed (name : Option (List ℕ)) (format : LedgerFormat) : Type 0 where
  pub csv : name ≡ Some (codes "csv") → format ≡ Csv
  pub json : name ≡ Some (codes "json") → format ≡ Json
  pub state : name ≢ Some (codes "csv") → name ≢ Some (codes "json") → format ≡ State
