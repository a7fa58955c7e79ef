-- The values of the options of a command line.
--     IsText       the text of an option
--     IsTextFault  why the text of an option is not taken
--     is_written   whether the words of the command line give an option
--     IsBounds     the limits and flags of `serve`
use Rattle.std.specs.Prelude.{◌≡◌, ◌⊎◌, ◌<◌, ℕ, Bool, true, false, codes, List, [], Option, Some, None, unwrap_or}
use Rattle.std.specs.Option.{option_and_then}
use Rattle.clap.specs.Matches.{first_value, matched_of}
use Rattle.clap.specs.declared.parser.matches.Found.{Found}
use Rattle.clap.specs.declared.parser.matches.ValueSource.{ValueSource}
use Rattle.clap.specs.declared.parser.matches.ValueSource.TheVariants.{CommandLine, DefaultValue}
use Rattle.program.specs.Values.{IsFlag, IsNumber}
use Rattle.server_commands.specs.declared.options.Bounds.{Bounds}

-- whether this is the text of the option of this name; empty if there is none
abbrev pub IsText : Found → List ℕ → List ℕ → Type 0
IsText found name text = text ≡ unwrap_or (first_value found name) []

-- whether this is why a text of this length is not taken: the option's own fault if it is empty or
-- longer than it may be, or out of memory
abbrev pub IsTextFault : {F : Type 0} → F → F → ℕ → ℕ → F → Type 0
IsTextFault wrong memory longest count given = (given ≡ memory)
    ⊎ ((given ≡ wrong) × ((count ≡ 0) ⊎ (longest < count)))

-- whether a value comes from the words of the command line, and not from a default
abbrev pub is_of_words : Option ValueSource → Bool
is_of_words (Some CommandLine) = true
is_of_words (Some DefaultValue) = false
is_of_words None = false

-- whether the option of this name has its value from the words of the command line
abbrev pub is_written : Found → List ℕ → Bool
is_written found name = is_of_words (option_and_then (λ entry. entry.source)
    (matched_of found name))

-- whether these are the limits and flags of `serve` that the command line gives
pub record IsBounds (found : Found) (bounds : Bounds) : Type 0 where
  pub depth : IsNumber 16 found (codes "depth") bounds.depth
  pub journal_limit : IsNumber 32 found (codes "journal-limit") bounds.journal_limit
  pub kept_journals : IsNumber 16 found (codes "keep-journals") bounds.kept_journals
  pub connections : IsNumber 64 found (codes "connections") bounds.connections
  pub inactivity : IsNumber 32 found (codes "inactivity") bounds.inactivity
  pub session : IsNumber 32 found (codes "session") bounds.session
  pub stops_with_input : IsFlag found (codes "stop-with-input") bounds.stops_with_input
  pub resumes : IsFlag found (codes "resume") bounds.resumes
  pub accepts_clock_steps : IsFlag found (codes "accept-clock-step") bounds.accepts_clock_steps
  pub is_group_readable : IsFlag found (codes "group-readable") bounds.is_group_readable
  pub is_verbose : IsFlag found (codes "verbose") bounds.is_verbose
