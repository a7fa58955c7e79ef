-- What `check` prints.
use Rattle.std.specs.Prelude.{ℕ, List, Option, Ok}
use Rattle.std.specs.Io.KnownBytes.{Appends}
use Rattle.head_end.specs.Jobs.{CountsJobs}
use Rattle.head_end_commands.specs.Lists.{IsTextOf}

-- whether the number of the jobs of the list in the input was printed
pub record PrintsCount (input written written' : Option (List ℕ)) : Type 0 where
  pub text : List ℕ
  pub read : IsTextOf input text
  pub line : List ℕ
  pub counted : CountsJobs text (Ok line)
  pub printed : Appends written written' line
