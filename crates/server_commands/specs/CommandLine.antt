-- The command line of `meter_server`: its commands, the options of each, and their defaults.
--     defaults_of                     the defaults of the options of a table
--     hex_defaults, serve_defaults    those of `hex` and of `serve`
--     IsCommandOf                     a command with the options of a table
--     IsCommandLine                   the three commands
use Rattle.std.specs.Prelude.{◌≡◌, ℕ, Bool, true, codes, Option, Some, None, List, [], ◌∷◌, ◌++◌}
use Rattle.clap.specs.Words.{AddsInTurn, AddsSubcommand, args_of, shape_of}
use Rattle.clap.specs.declared.builder.command.Command.{Command}
use Rattle.program.specs.Options.{AddsOption, default_text}
use Rattle.program.specs.declared.options.OptionText.{OptionText}

-- the name of an option and its default; empty if it has none
abbrev pub default_in : List ℕ → Option (List ℕ) → List (List ℕ × List ℕ)
default_in name (Some text) = (name, text) ∷ []
default_in name None = []

-- the options of a table that have a default, in order: the name and the default of each
abbrev pub defaults_of : List OptionText → List (List ℕ × List ℕ)
defaults_of [] = []
defaults_of (option ∷ options) =
    default_in option.name.now (default_text option) ++ defaults_of options

-- the options of `hex` that have a default
abbrev pub hex_defaults : List (List ℕ × List ℕ)
hex_defaults = (codes "device", codes "RELAY1") ∷ []

-- those of `serve`
abbrev pub serve_defaults : List (List ℕ × List ℕ)
serve_defaults =
    (codes "device", codes "RELAY1")
    ∷ (codes "listen", codes "127.0.0.1:4059")
    ∷ (codes "depth", codes "256")
    ∷ (codes "journal-limit", codes "1048576")
    ∷ (codes "keep-journals", codes "0")
    ∷ (codes "connections", codes "0")
    ∷ (codes "inactivity", codes "180")
    ∷ (codes "session", codes "3600")
    ∷ []

-- whether a command has this name and the options of a table with these defaults, and no others;
-- `has_password`: a password is given without the option `--password`
pub record IsCommandOf (has_password : Bool) (name : List ℕ) (defaults : List (List ℕ × List ℕ))
    (made : Command) : Type 0 where
  pub start : Command
  pub named : (shape_of start).name ≡ name
  pub no_options : args_of start ≡ []
  pub table : List OptionText
  pub stated : defaults_of table ≡ defaults
  pub added : AddsInTurn (AddsOption has_password) start table made

-- whether a command line has the commands `apdu`, `hex` and `serve`, in this order
pub record IsCommandLine (has_password : Bool) (made : Command) : Type 0 where
  pub start : Command
  pub apdu : Command
  pub with_apdu : Command
  pub hex : Command
  pub with_hex : Command
  pub serve : Command
  pub adds_apdu : AddsSubcommand start apdu with_apdu
  pub adds_hex : AddsSubcommand with_apdu hex with_hex
  pub adds_serve : AddsSubcommand with_hex serve made
  pub is_apdu : IsCommandOf true (codes "apdu") [] apdu
  pub is_hex : IsCommandOf has_password (codes "hex") hex_defaults hex
  pub is_serve : IsCommandOf has_password (codes "serve") serve_defaults serve
